-- How a proof over a desk is put together, one line for each exit of a function: see docs/DESKS.md.
--     then       an action gave a value, and what follows was performed from there
--     exit       an action gave an error, which ends the whole
--     pure       the desk is as it was, and the action says so: done, fail, decisions, own changes
--     act        only the workspace changed
--     lost       memory ran out: nothing was performed from here on, or in part
--     lifted, lifted_exit, lifted_leave      an action of a lower layer, its error, and that error at a `?`
--     tried      an action whose end is looked at
--     answered   a value that was worked out without the desk
--     regrouped  three actions one after another, the first two taken together
--     more, stop, end       the turns of a loop whose invariant is in continuation form
--     on_state   what the desk of a plain view did is what its state says
use Rattle.std.proofs.Common.{◌≡◌, ℕ, suc, ◌+◌, ◌≤◌, Bool, true, false, List, [], ◌∷◌, ◌++◌, length, map, Option, Some, Result, Ok, Err, refl, sym, ap, subst, ◌∙◌, arith, append_assoc, append-nil, length-append}
use Rattle.std.proofs.lemmas.List.{map-append, length-map}
use Rattle.std.specs.Prelude.{IsErrAnd, IfOk, IfErr}
use Rattle.em_tree.specs.declared.question.Question.{Question}
use Rattle.em_tree.specs.declared.question.Answer.{Answer}
use Rattle.em_tree.specs.declared.question.Entry.{Entry}
use Rattle.em_tree.specs.declared.state.State.{State}
use Rattle.em_tree.specs.Answers.{answer, Agrees, AgreesWith}
use Rattle.em_view.specs.Views.{IsTold}
use Rattle.em_view.specs.Actions.{Workspace, Oracle, AgreesFrom, snapshot, Action, go_on, ◌>>=◌, done, fail, renamed, lift, attempt}
use Rattle.em_view.specs.Performs.{DeskState, Told, AreTrue, is_free, Grows, Performs}

-- ---- lists of entries

pub split : (n : ℕ) (o : Oracle) (xs ys : List Entry) → AgreesFrom n o (xs ++ ys) → AgreesFrom n o xs × AgreesFrom (n + length xs) o ys
split n o [] ys h = (tt, let e : n ≡ n + length (let none : List Entry = [] in none) = omega arith in subst (λ k. AgreesFrom k o ys) e h)
split n o (x ∷ xs) ys h =
    let both = split (suc n) o xs ys h.1 in
    let e : suc n + length xs ≡ n + length (x ∷ xs) = omega arith in
    ((h.0, both.0), subst (λ k. AgreesFrom k o ys) e both.1)

-- a state that agrees with entries answers them so, whatever their numbers
pub snapshot_agrees : (n : ℕ) (s : State) (es : List Entry) → Agrees s es → AgreesFrom n (snapshot s) es
snapshot_agrees n s [] h = tt
snapshot_agrees n s (e ∷ es) h = (h.0, snapshot_agrees (suc n) s es h.1)

pub same_told : (f g : Told) (es : List Entry) → ((i : ℕ) (q : Question) → f i q ≡ g i q) → AreTrue f es → AreTrue g es
same_told f g [] e h = tt
same_told f g (x ∷ xs) e h = (subst (λ (t : Option Answer). IsTold t x.answer) (e 0 x.question) h.0, same_told (λ i q. f (suc i) q) (λ i q. g (suc i) q) xs (λ i q. e (suc i) q) h.1)

pub joined : (f : Told) (xs ys : List Entry) → AreTrue f xs → AreTrue (λ i q. f (length xs + i) q) ys → AreTrue f (xs ++ ys)
joined f [] ys h k = same_told (λ i q. f (0 + i) q) f ys (λ i q. let e : 0 + i ≡ i = omega arith in ap (λ n. f n q) e) k
joined f (x ∷ xs) ys h k = (h.0, joined (λ i q. f (suc i) q) xs ys h.1 (same_told _ _ ys (λ i q. let e : length (x ∷ xs) + i ≡ suc (length xs + i) = omega arith in ap (λ n. f n q) e) k))

-- ---- a desk grows

-- nothing was asked, and at most fuel, the count and the changes are others
pub record IsSameJob (old new : Workspace) : Type 0 where
  pub base : new.base ≡ old.base
  pub job : new.job ≡ old.job
  pub given : new.given ≡ old.given
  pub asked : new.asked ≡ old.asked

pub itself : {w : Workspace} → IsSameJob w w
itself = record { base = refl; job = refl; given = refl; asked = refl }

module _ {V : Type 0} {tells : V → Told} where
  pub grows_still : {old new : DeskState V} → new.usage ≡ old.usage → new.view ≡ old.view → IsSameJob old.work new.work → new.work.fuel ≤ old.work.fuel → Grows tells old new
  grows_still {old} {new} usage view work less = record {
    entries = [];
    grew = usage ∙ sym (append-nil old.usage);
    asked = work.asked ∙ sym (append-nil old.work.asked);
    told = tt;
    ahead = λ i q. let e : i ≡ 0 + i = omega arith in ap (λ (v : V). tells v i q) view ∙ ap (λ n. tells old.view n q) e;
    burns = less;
    base = work.base;
    job = work.job;
    given = work.given;
  }

  abbrev pub grows_then : {old mid new : DeskState V} → Grows tells old mid → Grows tells mid new → Grows tells old new
  grows_then {old} {mid} {new} p q = record {
    entries = p.entries ++ q.entries;
    grew = q.grew ∙ ap (λ (us : List Entry). us ++ q.entries) p.grew ∙ append_assoc old.usage p.entries q.entries;
    asked = q.asked ∙ ap (λ (us : List Question). us ++ map (λ (e : Entry). e.question) q.entries) p.asked
        ∙ append_assoc old.work.asked (map (λ (e : Entry). e.question) p.entries) (map (λ (e : Entry). e.question) q.entries)
        ∙ ap (λ (us : List Question). old.work.asked ++ us) (sym (map-append (λ (e : Entry). e.question) p.entries q.entries));
    told = joined (tells old.view) p.entries q.entries p.told (same_told (tells mid.view) _ q.entries p.ahead q.told);
    ahead = λ i x. let e : length p.entries + (length q.entries + i) ≡ length (p.entries ++ q.entries) + i = omega (arith, length-append p.entries q.entries) in
        q.ahead i x ∙ p.ahead (length q.entries + i) x ∙ ap (λ n. tells old.view n x) e;
    burns = omega (arith, p.burns, q.burns);
    base = q.base ∙ p.base;
    job = q.job ∙ p.job;
    given = q.given ∙ p.given;
  }

  -- the number of the next ask
  next_number : {old new : DeskState V} (p : Grows tells old new) → length old.work.asked + length p.entries ≡ length new.work.asked
  next_number {old} {new} p = omega (arith, ap length p.asked, length-append old.work.asked (map (λ (e : Entry). e.question) p.entries), length-map p.entries (λ (e : Entry). e.question))

-- ---- one action and then another

module _ {V E : Type 0} {free : E → Bool} {tells : V → Told} where
  -- what was performed first, and what was performed from there
  module _ {A B : Type 0} {old mid new : DeskState V} {a : A} {r : Result B E} {m : Action E A} (k : A → Action E B) where
    pub then : Performs free tells old mid (Ok a) m → Performs free tells mid new r (k a) → Performs free tells old new r (m >>= k)
    unfolding ◌>>=◌
    then p q = record {
      grows = grows_then p.grows q.grows;
      plain = λ h o all. let both = split (length old.work.asked) o p.grows.entries q.grows.entries all in
          ap (λ (z : Result A E × Workspace). go_on z.0 z.1 k o) (p.plain refl o both.0) ∙ q.plain h o (subst (λ n. AgreesFrom n o q.grows.entries) (next_number p.grows) both.1);
    }

  module _ {A B : Type 0} {old new : DeskState V} {e : E} {m : Action E A} (k : A → Action E B) where
    pub exit : Performs free tells old new (Err e) m → Performs free tells old new (Err e) (m >>= k)
    unfolding ◌>>=◌
    exit p = record { grows = p.grows; plain = λ h o all. ap (λ (z : Result A E × Workspace). go_on z.0 z.1 k o) (p.plain h o all) }

    -- the same at a `?`, which makes the error anew
    pub leave : {r : Result B E} → IsErrAnd r (λ x. x ≡ e) → Performs free tells old new (Err e) m → Performs free tells old new r (m >>= k)
    leave {r = Ok b} is p = absurd is
    leave {r = Err x} is p = subst (λ (y : E). Performs free tells old new (Err y) (m >>= k)) (sym is) (exit p)

  module _ {A : Type 0} {old new : DeskState V} {r : Result A E} {m : Action E A} where
    -- nothing was asked, and the fuel didn't grow
    pub act : new.usage ≡ old.usage → new.view ≡ old.view → IsSameJob old.work new.work → new.work.fuel ≤ old.work.fuel → (is_free free r ≡ false → (o : Oracle) → m o old.work ≡ (r, new.work)) → Performs free tells old new r m
    act usage view work less plain = record { grows = grows_still usage view work less; plain = λ h o all. plain h o }

  module _ {A : Type 0} {d : DeskState V} {r : Result A E} {m : Action E A} where
    pub pure : ((o : Oracle) → m o d.work ≡ (r, d.work)) → Performs free tells d d r m
    pure e = act refl refl itself (omega arith) (λ h o. e o)

  pub finish : {A : Type 0} {d : DeskState V} {a : A} → Performs free tells d d (Ok a) (done a)
  unfolding done
  finish = pure (λ o. refl)

  pub refused : {A : Type 0} {d : DeskState V} {e : E} → Performs free tells d d (Err e) (fail {A = A} e)
  unfolding fail
  refused = pure (λ o. refl)

  module _ {A B : Type 0} {old mid : DeskState V} {r : Result A E} {e : E} {m : Action E A} where
    -- memory ran out after something was performed
    pub lost : free e ≡ true → Performs free tells old mid r m → (n : Action E B) → Performs free tells old mid (Err e) n
    lost h p n = record { grows = p.grows; plain = λ k. absurd (let no : true ≡ false = sym h ∙ k in cc) }

  -- memory ran out before anything was performed, at a `?`
  pub ran_out : {A : Type 0} {d : DeskState V} {r : Result A E} {n : Action E A} (e : E) → free e ≡ true → IsErrAnd r (λ x. x ≡ e) → Performs free tells d d r n
  ran_out {r = Ok a} e h is = absurd is
  ran_out {A} {d} {r = Err x} {n} e h is = subst (λ (y : E). Performs free tells d d (Err y) n) (sym is)
      (act refl refl itself (omega arith) (λ k. absurd (let no : true ≡ false = sym h ∙ k in cc)))

  -- a value that was worked out without the desk, unless memory ran out
  pub answered : {A : Type 0} {d : DeskState V} (lack : E) → free lack ≡ true → (r : Result A E) (a : A) → IfOk r (λ x. x ≡ a) → IfErr r (λ e. e ≡ lack) → Performs free tells d d r (done a)
  answered {A} {d} lack h (Ok x) a is only = subst (λ (y : A). Performs free tells d d (Ok y) (done a)) (sym is) finish
  answered lack h (Err e) a is only = ran_out lack h only

  module _ {A B C : Type 0} {old new : DeskState V} {r : Result C E} (m : Action E A) (k : A → Action E B) (l : B → Action E C) where
    -- what follows an action, as one: so the rest of a function goes behind a loop in its middle
    pub regrouped : Performs free tells old new r (m >>= λ a. k a >>= l) → Performs free tells old new r ((m >>= k) >>= l)
    unfolding ◌>>=◌
    regrouped p = record { grows = p.grows; plain = λ h o all. by_end (m o old.work).0 (m o old.work).1 o ∙ p.plain h o all }
      where
        by_end : (x : Result A E) (w : Workspace) (o : Oracle) → go_on (go_on x w k o).0 (go_on x w k o).1 l o ≡ go_on x w (λ a. k a >>= l) o
        by_end (Ok a) w o = refl
        by_end (Err e) w o = refl

module _ {V E F A : Type 0} {low : E → Bool} {free : F → Bool} {tells : V → Told} {old new : DeskState V} {m : Action E A} (f : E → F) where
  pub lifted : {a : A} → Performs low tells old new (Ok a) m → Performs free tells old new (Ok a) (lift f m)
  unfolding lift
  lifted {a} p = record { grows = p.grows; plain = λ h o all. ap (λ (z : Result A E × Workspace). let r : Result A F × Workspace = (renamed f z.0, z.1) in r) (p.plain refl o all) }

  pub lifted_exit : {e : E} → ((x : E) → free (f x) ≡ low x) → Performs low tells old new (Err e) m → Performs free tells old new (Err (f e)) (lift f m)
  unfolding lift
  lifted_exit {e} same p = record {
    grows = p.grows;
    plain = λ h o all. ap (λ (z : Result A E × Workspace). let x : Result A F × Workspace = (renamed f z.0, z.1) in x) (p.plain (sym (same e) ∙ h) o all);
  }

  pub lifted_leave : {B : Type 0} {r : Result B F} {e : E} (k : A → Action F B) → ((x : E) → free (f x) ≡ low x) → IsErrAnd r (λ x. x ≡ f e) → Performs low tells old new (Err e) m → Performs free tells old new r (lift f m >>= k)
  lifted_leave k same is p = leave k is (lifted_exit same p)

module _ {V E A : Type 0} {free : E → Bool} {tells : V → Told} {old new : DeskState V} {r : Result A E} {m : Action E A} where
  pub tried : is_free free r ≡ false → Performs free tells old new r m → Performs free tells old new (Ok r) (attempt m)
  unfolding attempt
  tried given p = record { grows = p.grows; plain = λ h o all. ap (λ (z : Result A E × Workspace). let x : Result (Result A E) E × Workspace = (Ok z.0, z.1) in x) (p.plain given o all) }

-- ---- loops

-- whatever goes on with the rest from this desk goes on with the whole from the first one
abbrev pub Continues : {V E A : Type 0} → (E → Bool) → (V → Told) → DeskState V → DeskState V → Action E A → Action E A → Type 0
Continues {V} {E} {A} free tells first here whole rest = (new : DeskState V) (r : Result A E) → Performs free tells here new r rest → Performs free tells first new r whole

module _ {V E A B : Type 0} {free : E → Bool} {tells : V → Told} {first here next : DeskState V} {whole : Action E B} {m : Action E A} (k : A → Action E B) where
  -- a turn gave a value, and the loop goes on
  pub more : {a : A} → Continues free tells first here whole (m >>= k) → Performs free tells here next (Ok a) m → Continues free tells first next whole (k a)
  more {a} inv p new r q = inv new r (then k p q)

  -- a turn gave an error at a `?`
  pub stop : {r : Result B E} {e : E} → Continues free tells first here whole (m >>= k) → IsErrAnd r (λ x. x ≡ e) → Performs free tells here next (Err e) m → Performs free tells first next r whole
  stop {r} inv is p = inv next r (leave k is p)

-- the loop has ended, with what follows it
pub end : {V E B : Type 0} {free : E → Bool} {tells : V → Told} {first here new : DeskState V} {whole rest : Action E B} {r : Result B E} → Continues free tells first here whole rest → Performs free tells here new r rest → Performs free tells first new r whole
end {new} {r} inv p = inv new r p

-- ---- plain views

pub agreed_with : (s : State) (es : List Entry) → AreTrue (λ i q. Some (answer s q)) es → Agrees s es
agreed_with s [] h = tt
agreed_with s (e ∷ es) h = (sym h.0, agreed_with s es h.1)

-- what the desk of a plain view did is what its state says, and the state agrees with all that was
-- answered
pub on_state : {V E A : Type 0} {free : E → Bool} {tells : V → Told} {d e : DeskState V} {r : Result A E} {m : Action E A} (s : State) → tells d.view ≡ (λ i q. Some (answer s q)) → d.usage ≡ []
    → is_free free r ≡ false → Performs free tells d e r m → (m (snapshot s) d.work ≡ (r, e.work)) × Agrees s e.usage
on_state {d} {e} s plain none given p =
    let all = agreed_with s p.grows.entries (subst (λ (f : Told). AreTrue f p.grows.entries) plain p.grows.told) in
    let usage : e.usage ≡ p.grows.entries = p.grows.grew ∙ ap (λ (us : List Entry). us ++ p.grows.entries) none in
    (p.plain given (snapshot s) (snapshot_agrees (length d.work.asked) s p.grows.entries all), subst (λ (us : List Entry). Agrees s us) (sym usage) all)
