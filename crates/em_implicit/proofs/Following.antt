-- Questions that were asked, put together.
--     on, first                    one stretch of questions after another; the questions of a part, as those of the whole
--     one                          a single question
--     then_asked, leave_asked      a part came to a value, and what follows it from there; to a refusal, at a `?`
--     lacked, lacked_at            memory was short before a question; behind a stretch of questions
--     went_on                      a stretch of questions before the rest
--     told_on, told_result         whoever answers each question alike: the value is the one that is told
--     told_stops                   its refusals
--     over_desk, on_desk           the same over a desk: the questions were performed
use Rattle.std.proofs.Common.{◌≡◌, ◌∙◌, refl, sym, ap, subst, Bool, List, ℕ, Result, Ok, Err}
use Rattle.std.specs.Prelude.{IfOk, IfErr, IsErrAnd}
use Rattle.em_tree.specs.declared.node.Kind.{Kind}
use Rattle.em_view.specs.declared.no.DeskNo.{DeskNo}
use Rattle.em_view.specs.declared.no.DeskNo.TheVariants as no
use Rattle.em_view.specs.Actions.{Workspace, Oracle, Action, go_on, ◌>>=◌, done}
use Rattle.em_view.specs.Performs.{DeskState, Told, Performs}
use Rattle.em_view.specs.Rows.{is_memory, kind_at}
use Rattle.em_view.proofs.Performing.{then, exit, finish, ran_out}
use Rattle.em_implicit.specs.Asking.{Asking, Had, Ask, and_then, told, acted, is_something, Asks, Follows, Here, Then, Stops, Lacks, Refuses, Goes, Asked}

module _ {T A : Type 0} {asks : Asks T} where
  pub on : {a b c : T} {x y z : Asking A} → Follows asks a b x y → Follows asks b c y z → Follows asks a c x z
  on (Here a x) q = q
  on (Then a b c p k y v h f) q = Then a b _ p k _ v h (on f q)

  pub one : {a b : T} {p : List ℕ} (k : Bool → Asking A) (v : Bool) → asks a b p (Ok v) → Follows asks a b (Ask p k) (k v)
  one {a} {b} {p} k v h = Then a b b p k (k v) v h (Here b (k v))

  pub stopped : {a b c : T} {x y : Asking A} {e : DeskNo} → Follows asks a b x y → Stops asks b c e y → Stops asks a c e x
  stopped (Here a x) q = q
  stopped (Then a b c p k y v h f) q = Goes a b _ p k v _ h (stopped f q)

  -- the rest came to this result, so the whole did
  pub went_on : {a b : T} {x y : Asking A} (c : T) (r : Result A DeskNo) → Follows asks a b x y → Asked asks b c r y → Asked asks a c r x
  went_on c (Ok v) f q = on f q
  went_on c (Err e) f q = stopped f q

module _ {T : Type 0} (asks : Asks T) where
  pub lacked : {A : Type 0} (a : T) (x : Asking A) (r : Result A DeskNo) → IsErrAnd r (λ e. e ≡ no.NoMemory) → Asked asks a a r x
  lacked a x (Ok v) is = absurd is
  lacked a x (Err e) is = subst (λ (d : DeskNo). Stops asks a a d x) (sym is) (Lacks a x)

  pub single : (a b : T) (p : List ℕ) (r : Result Bool DeskNo) → asks a b p r → Asked asks a b r (Ask p Had)
  single a b p (Ok v) h = one Had v h
  single a b p (Err e) h = Refuses a b p Had e h

module _ {T A B : Type 0} {asks : Asks T} (k : A → Asking B) where
  pub first : {a b : T} {x y : Asking A} → Follows asks a b x y → Follows asks a b (and_then x k) (and_then y k)
  first (Here a x) = Here a (and_then x k)
  first (Then a b c p f y v h q) = Then a b c p (λ w. and_then (f w) k) (and_then y k) v h (first q)

  first_stops : {a b : T} {x : Asking A} {e : DeskNo} → Stops asks a b e x → Stops asks a b e (and_then x k)
  first_stops (Lacks a x) = Lacks a (and_then x k)
  first_stops (Refuses a b p f e h) = Refuses a b p (λ w. and_then (f w) k) e h
  first_stops (Goes a b c p f v e h q) = Goes a b c p (λ w. and_then (f w) k) v e h (first_stops q)

  pub then_asked : {a b : T} {x : Asking A} {v : A} (c : T) (r : Result B DeskNo) → Follows asks a b x (Had v) → Asked asks b c r (k v) → Asked asks a c r (and_then x k)
  then_asked c r f q = went_on c r (first f) q

  pub leave_asked : {a b : T} {x : Asking A} {e : DeskNo} (r : Result B DeskNo) → IsErrAnd r (λ d. d ≡ e) → Stops asks a b e x → Asked asks a b r (and_then x k)
  leave_asked (Ok v) is q = absurd is
  leave_asked {a} {b} {x} (Err d) is q = subst (λ (d : DeskNo). Stops asks a b d (and_then x k)) (sym is) (first_stops q)

-- ---- whoever answers each question alike, and stays as it is

module _ {T A : Type 0} (asks : Asks T) (f : T → List ℕ → Bool) (plain : (a b : T) (p : List ℕ) (v : Bool) → asks a b p (Ok v) → (b ≡ a) × (v ≡ f a p)) where
  pub told_on : {a b : T} {x y : Asking A} → Follows asks a b x y → told (f a) x ≡ told (f a) y
  told_on (Here a x) = refl
  told_on (Then a b c p k y v h q) =
      let s = plain a b p v h in
      ap (λ w. told (f a) (k w)) (sym s.1) ∙ subst (λ (t : T). told (f t) (k v) ≡ told (f t) y) s.0 (told_on q)

  pub told_result : (a b : T) (x : Asking A) (r : Result A DeskNo) → Asked asks a b r x → IfOk r (λ v. v ≡ told (f a) x)
  told_result a b x (Ok v) h = sym (told_on h)
  told_result a b x (Err e) h = tt

module _ {T A : Type 0} (asks : Asks T) (fails : (a b : T) (p : List ℕ) (e : DeskNo) → asks a b p (Err e) → e ≡ no.NoMemory) where
  stops_only : {a b : T} {x : Asking A} {e : DeskNo} → Stops asks a b e x → e ≡ no.NoMemory
  stops_only (Lacks a x) = refl
  stops_only (Refuses a b p k e h) = fails a b p e h
  stops_only (Goes a b c p k v e h q) = stops_only q

  pub told_stops : (a b : T) (x : Asking A) (r : Result A DeskNo) → Asked asks a b r x → IfErr r (λ e. e ≡ no.NoMemory)
  told_stops a b x (Ok v) h = tt
  told_stops a b x (Err e) h = stops_only h

-- ---- a desk

abbrev pub desk_asks : {V : Type 0} → (V → Told) → Asks (DeskState V)
desk_asks tells a b p r = Performs is_memory tells a b r (acted (Ask p Had))

through : {A : Type 0} (m : Action DeskNo Kind) (k : Bool → Action DeskNo A) (o : Oracle) (w : Workspace) → ((m >>= λ d. done (is_something d)) >>= k) o w ≡ (m >>= λ d. k (is_something d)) o w
unfolding ◌>>=◌ done
through m k o w = by_end (m o w).0 (m o w).1
  where
    by_end : (x : Result Kind DeskNo) (u : Workspace) → go_on (go_on x u (λ d. (λ o w. (Ok (is_something d), w))) o).0 (go_on x u (λ d. (λ o w. (Ok (is_something d), w))) o).1 k o ≡ go_on x u (λ d. k (is_something d)) o
    by_end (Ok d) u = refl
    by_end (Err e) u = refl

module _ {V A : Type 0} {tells : V → Told} where
  same_action : {a b : DeskState V} {r : Result A DeskNo} {m n : Action DeskNo A} → ((o : Oracle) (w : Workspace) → m o w ≡ n o w) → Performs is_memory tells a b r m → Performs is_memory tells a b r n
  same_action {a} e p = record { grows = p.grows; plain = λ h o all. sym (e o a.work) ∙ p.plain h o all }

  asked_then : {a b c : DeskState V} (p : List ℕ) (k : Bool → Asking A) {v : Bool} {r : Result A DeskNo} → desk_asks tells a b p (Ok v) → Performs is_memory tells b c r (acted (k v)) → Performs is_memory tells a c r (acted (Ask p k))
  asked_then p k h q = same_action (through (kind_at p) (λ w. acted (k w))) (then (λ w. acted (k w)) h q)

  asked_exit : {a b : DeskState V} (p : List ℕ) (k : Bool → Asking A) {e : DeskNo} → desk_asks tells a b p (Err e) → Performs is_memory tells a b (Err e) (acted (Ask p k))
  asked_exit p k h = same_action (through (kind_at p) (λ w. acted (k w))) (exit (λ w. acted (k w)) h)

  pub over_desk : {a b c : DeskState V} {x y : Asking A} {r : Result A DeskNo} → Follows (desk_asks tells) a b x y → Performs is_memory tells b c r (acted y) → Performs is_memory tells a c r (acted x)
  over_desk (Here a x) q = q
  over_desk (Then a b c p k y v h f) q = asked_then p k h (over_desk f q)

  over_stops : {a b : DeskState V} {x : Asking A} {e : DeskNo} → Stops (desk_asks tells) a b e x → Performs is_memory tells a b (Err e) (acted x)
  over_stops (Lacks a x) = ran_out no.NoMemory refl refl
  over_stops (Refuses a b p k e h) = asked_exit p k h
  over_stops (Goes a b c p k v e h q) = asked_then p k h (over_stops q)

  pub on_desk : (a b : DeskState V) (x : Asking A) (r : Result A DeskNo) → Asked (desk_asks tells) a b r x → Performs is_memory tells a b r (acted x)
  on_desk a b x (Ok v) h = over_desk h finish
  on_desk a b x (Err e) h = over_stops h
