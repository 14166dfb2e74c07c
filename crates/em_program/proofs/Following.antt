-- How a proof over a host is put together, one line for each exit of a function.
--     then k        a part gave a value, and what follows was done from there
--     leave k       a part broke off, or ended the run, which ends the whole
--     finish, quits      no call, and a value or a status
--     ran_out, out       want of memory before any call, at a `?` and where it is returned
--     said, said_nothing, not_said ..      the calls, and each that failed
--     said_all, not_said_all         what a build says, to the end or broken off
use Rattle.std.proofs.Common.{◌≡◌, ℕ, Bool, true, false, cond, ◌==◌, List, [], ◌∷◌, ◌++◌, length, Option, Result, Ok, Err, refl, sym, ap, subst, ◌∙◌, inl, inr, ◌⊎◌, ⊎_elim}
use Rattle.std.specs.Prelude.{IsErrAnd}
use Rattle.em_host.specs.declared.call.Call.{Call}
use Rattle.em_host.specs.declared.call.Call.TheVariants.{Take, Replace, Print}
use Rattle.em_host.specs.declared.no.HostNo.{HostNo}
use Rattle.em_host.specs.declared.no.HostNo.TheVariants as no
use Rattle.em_host.specs.Outside.{Files, Outside, Tells, Takes, Replaces, Prints}
use Rattle.em_host.specs.Calls.{files_after, Makes, FailsIn}
use Rattle.em_host.proofs.Telling.{Tells-then, Tells-weaken, Tells-same, Went, makes_none, makes_then, front_none, front_more, front_then, fails_more, fails_then, take_went, replace_went, print_went}
use Rattle.em_workers.specs.declared.no.BuildNo.{BuildNo}
use Rattle.em_workers.specs.declared.no.BuildNo.TheVariants as build_no
use Rattle.em_workers.specs.Printing.{prints, RunsOut, Says}
use Rattle.em_program.specs.declared.verdict.BuildStatus.{BuildStatus}
use Rattle.em_program.specs.declared.stop.ProgramEnd.{ProgramEnd}
use Rattle.em_program.specs.declared.stop.ProgramEnd.TheVariants.{End, Failed, NoMemory}
use Rattle.em_program.specs.Course.{Trace, Course, behind, go_on, ◌>>=◌, done, quit, say, say_all, take, keep, Ends, Meets, Follows, faults_after, stop_of, stop_of_build}

-- ---- one part, and then another

behind_ends : {A : Type 0} (calls : List Call) (steps : Trace A) (end : Result A BuildStatus) (x y z : Outside) → Makes calls x y → Ends steps end y z → Ends (behind calls steps) end x z
behind_ends calls steps end x y z p q = record { same = q.same; made = makes_then calls steps.calls x y z p q.made }

behind_does : {A : Type 0} (calls : List Call) (steps : Trace A) (r : Result A ProgramEnd) (x y z : Outside) → Makes calls x y → Meets steps r y z → Meets (behind calls steps) r x z
behind_does calls steps (Ok a) x y z p q = behind_ends calls steps (Ok a) x y z p q
behind_does calls steps (Err (End verdict)) x y z p q = behind_ends calls steps (Err verdict) x y z p q
behind_does calls steps (Err Failed) x y z p q = fails_then true calls steps.calls x y z p q
behind_does calls steps (Err NoMemory) x y z p q = ⊎_elim (λ f. inl (front_then calls steps.calls x y z p f)) (λ f. inr (f.0, fails_then f.0 calls steps.calls x y z p f.1)) q

module _ {A B : Type 0} (k : A → Course B) where
  pub then_does : (steps : Trace A) (a : A) (r : Result B ProgramEnd) (x y z : Outside) → Ends steps (Ok a) x y → Meets (k a y.files) r y z → Meets (go_on steps.calls steps.end k x.files) r x z
  then_does steps a r x y z p q =
      subst (λ end. Meets (go_on steps.calls end k x.files) r x z) (sym p.same)
      (behind_does steps.calls (k a (files_after steps.calls x.files)) r x y z p.made (subst (λ f. Meets (k a f) r y z) p.made.files q))

  more_calls : (calls : List Call) (end : Result A BuildStatus) (f : Files) (P : List Call → Type 0) → ((a b : List Call) → P a → P (a ++ b)) → P calls → P (go_on calls end k f).calls
  more_calls calls (Ok a) f P more p = more calls (k a (files_after calls f)).calls p
  more_calls calls (Err verdict) f P more p = p

  pub leave_does : (steps : Trace A) (e : ProgramEnd) (x y : Outside) → Meets steps (Err e) x y → Meets (go_on steps.calls steps.end k x.files) (Err e) x y
  leave_does steps (End verdict) x y p = subst (λ end. Ends (go_on steps.calls end k x.files) (Err verdict) x y) (sym p.same) (record { same = refl; made = p.made })
  leave_does steps Failed x y p = more_calls steps.calls steps.end x.files (λ c. FailsIn true c x y) (λ a b q. fails_more true a b x y q) p
  leave_does steps NoMemory x y p = more_calls steps.calls steps.end x.files (λ c. RunsOut c x y)
      (λ a b q. ⊎_elim (λ f. let r : RunsOut (a ++ b) x y = inl (front_more a b x y f) in r) (λ f. let r : RunsOut (a ++ b) x y = inr (f.0, fails_more f.0 a b x y f.1) in r) q) p

  module _ {m : Course A} {x y : Option Outside} where
    pub then : {a : A} {r : Result B ProgramEnd} {z : Option Outside} → Follows m (Ok a) x y → Follows (k a) r y z → Follows (m >>= k) r x z
    unfolding ◌>>=◌
    then {a} {r} {z} p q = record { told = Tells-then x y z (λ u v w h i. then_does (m u.files) a r u v w h i) p.told q.told }

    -- the same at a `?`, which makes the error anew
    pub leave : {r : Result B ProgramEnd} {e : ProgramEnd} → IsErrAnd r (λ s. s ≡ e) → Follows m (Err e) x y → Follows (m >>= k) r x y
    unfolding ◌>>=◌
    leave {r = Ok b} is p = absurd is
    leave {r = Err s} {e} is p = subst (λ t. Follows (m >>= k) (Err t) x y) (sym is) (record { told = Tells-weaken x y (λ u v h. leave_does (m u.files) e u v h) p.told })

same_faults : (B : Type 0) (e : ProgramEnd) (n : ℕ) → faults_after (let a : Result (Unit {0}) ProgramEnd = Err e in a) n ≡ faults_after (let b : Result B ProgramEnd = Err e in b) n
same_faults B (End verdict) n = refl
same_faults B Failed n = refl
same_faults B NoMemory n = refl

-- the count of faults at a `?`
pub faults_left : {B : Type 0} (r : Result B ProgramEnd) (e : ProgramEnd) (k m n : ℕ) → IsErrAnd r (λ s. s ≡ e) → k ≡ faults_after (let a : Result (Unit {0}) ProgramEnd = Err e in a) m → m ≡ n → k ≡ faults_after r n
faults_left (Ok b) e k m n is counted same = absurd is
faults_left {B} (Err s) e k m n is counted same =
    counted ∙ ap (faults_after (let a : Result (Unit {0}) ProgramEnd = Err e in a)) same ∙ same_faults B e n ∙ ap (λ (t : ProgramEnd). faults_after (let b : Result B ProgramEnd = Err t in b) n) (sym is)

-- the other one of two
pub but : {P Q : Type 0} → (P → ⊥) → P ⊎ Q → Q
but other p = ⊎_elim (λ h. absurd (other h)) (λ h. h) p

-- ---- no call

pub finish : {A : Type 0} {a : A} {x : Option Outside} → Follows (done a) (Ok a) x x
unfolding done
finish {x} = record { told = Tells-same _ x (λ y. record { same = refl; made = makes_none y }) }

pub quits : {A : Type 0} {verdict : BuildStatus} {x : Option Outside} → Follows (quit {A = A} verdict) (Err (End verdict)) x x
unfolding quit
quits {x} = record { told = Tells-same _ x (λ y. record { same = refl; made = makes_none y }) }

module _ {A : Type 0} {m : Course A} {x : Option Outside} where
  pub out : Follows m (Err NoMemory) x x
  out = record { told = Tells-same (λ y z. RunsOut (m y.files).calls y z) x (λ y. inl (front_none (m y.files).calls y)) }

  pub ran_out : {r : Result A ProgramEnd} → IsErrAnd r (λ s. s ≡ NoMemory) → Follows m r x x
  ran_out {r = Ok a} is = absurd is
  ran_out {r = Err s} is = subst (λ t. Follows m (Err t) x x) (sym is) out

-- ---- one call

-- a call that failed breaks off whatever is that call alone
broke : {B : Type 0} (A : Type 0) (steps : Trace B) (call : Call) (e : HostNo) (x y : Outside) → steps.calls ≡ call ∷ [] → Went {A = A} call (Err e) x y → Meets steps (Err (stop_of e)) x y
broke A steps call no.Failed x y is p = subst (λ c. FailsIn true c x y) (sym is) p
broke A steps call no.NoMemory x y is p = inr (subst (λ c. (is_noted : Bool) × FailsIn is_noted c x y) (sym is) p)

module _ {B : Type 0} {m : Course B} {r : Result B ProgramEnd} {x y : Option Outside} where
  call_failed : (A : Type 0) (call : Call) (e : HostNo) (P : Outside → Outside → Type 0) → ((u v : Outside) → P u v → Went {A = A} call (Err e) u v) → ((f : Files) → (m f).calls ≡ call ∷ [])
      → IsErrAnd r (λ s. s ≡ stop_of e) → Tells P x y → Follows m r x y
  call_failed A call e P went alone is p = by_result r is (record { told = Tells-weaken x y (λ u v h. broke A (m u.files) call e u v (alone u.files) (went u v h)) p })
    where
      by_result : (r : Result B ProgramEnd) → IsErrAnd r (λ s. s ≡ stop_of e) → Follows m (Err (stop_of e)) x y → Follows m r x y
      by_result (Ok b) is p = absurd is
      by_result (Err s) is p = subst (λ t. Follows m (Err t) x y) (sym is) p

module _ (text : List ℕ) where
  alone : (length text == 0) ≡ false → (f : Files) → (say text f).calls ≡ Print text ∷ []
  unfolding say
  alone given f = ap (λ b. cond b [] (Print text ∷ [])) given

  pub said_nothing : {x : Option Outside} → (length text == 0) ≡ true → Follows (say text) (Ok tt) x x
  unfolding say
  said_nothing {x} empty = record { told = Tells-same _ x (λ y. record { same = refl; made = subst (λ b. Makes (cond b [] (Print text ∷ [])) y y) (sym empty) (makes_none y) }) }

  module _ {x y : Option Outside} where
    pub said : {u : Unit {0}} → (length text == 0) ≡ false → Tells (Prints text (Ok u)) x y → Follows (say text) (Ok u) x y
    unfolding say
    said {u} given p = record { told = Tells-weaken x y (λ v w h. record { same = refl; made = subst (λ c. Makes c v w) (sym (alone given v.files)) (print_went text (Ok u) v w h) }) p }

    pub not_said : {r : Result (Unit {0}) ProgramEnd} (e : HostNo) → (length text == 0) ≡ false → IsErrAnd r (λ s. s ≡ stop_of e) → Tells (Prints text (Err e)) x y → Follows (say text) r x y
    not_said e given is p = call_failed (Unit {0}) (Print text) e (Prints text (Err e)) (λ u v h. print_went text (Err e) u v h) (alone given) is p

module _ (name : List ℕ) {x y : Option Outside} where
  pub took : {found : Option (List ℕ)} → Tells (Takes name (Ok found)) x y → Follows (take name) (Ok found) x y
  unfolding take
  took {found} p = record { told = Tells-weaken x y (λ u v h. record { same = ap Ok (sym h.found); made = take_went name (Ok found) u v h }) p }

  pub not_taken : {r : Result (Option (List ℕ)) ProgramEnd} (e : HostNo) → IsErrAnd r (λ s. s ≡ stop_of e) → Tells (Takes name (Err e)) x y → Follows (take name) r x y
  unfolding take
  not_taken e is p = call_failed (Option (List ℕ)) (Take name) e (Takes name (Err e)) (λ u v h. take_went name (Err e) u v h) (λ f. refl) is p

module _ (name bytes : List ℕ) {x y : Option Outside} where
  pub kept : {u : Unit {0}} → Tells (Replaces name bytes (Ok u)) x y → Follows (keep name bytes) (Ok u) x y
  unfolding keep
  kept {u} p = record { told = Tells-weaken x y (λ v w h. record { same = refl; made = replace_went name bytes (Ok u) v w h }) p }

  pub not_kept : {r : Result (Unit {0}) ProgramEnd} (e : HostNo) → IsErrAnd r (λ s. s ≡ stop_of e) → Tells (Replaces name bytes (Err e)) x y → Follows (keep name bytes) r x y
  unfolding keep
  not_kept e is p = call_failed (Unit {0}) (Replace name bytes) e (Replaces name bytes (Err e)) (λ u v h. replace_went name bytes (Err e) u v h) (λ f. refl) is p

-- ---- what a build says

module _ (texts : List (List ℕ)) {x y : Option Outside} where
  pub said_all : Tells (Makes (prints texts)) x y → Follows (say_all texts) (Ok tt) x y
  unfolding say_all
  said_all p = record { told = Tells-weaken x y (λ u v h. record { same = refl; made = h }) p }

  pub not_said_all : (A : Type 0) (e : BuildNo) → Tells (Says {A = A} (prints texts) (Err e)) x y → Follows (say_all texts) (Err (stop_of_build e)) x y
  unfolding say_all
  not_said_all A build_no.Host p = record { told = p }
  not_said_all A build_no.NoMemory p = record { told = p }
