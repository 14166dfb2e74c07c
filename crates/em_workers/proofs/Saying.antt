-- What is said, one text after another.
--     says_then       calls that went well before others
--     said_one, said_then, said_lost      one output, outputs behind others, and want of memory behind some
--     said_says       outputs that were said, as calls
--     as_said, faults_left      an error that a `?` makes anew
--     said_nothing, said, not_said      one text: an empty one, one that was printed, and one that failed
use Rattle.std.proofs.Common.{◌≡◌, ℕ, Bool, true, false, cond, ◌==◌, List, [], ◌∷◌, ◌++◌, length, Option, Result, Ok, Err, refl, sym, ap, subst, ◌∙◌, inl, inr, ⊎_elim, append-nil, append_assoc, arith}
use Rattle.std.specs.Prelude.{IsErrAnd}
use Rattle.std.proofs.lemmas.Grind.{flat_map-append}
use Rattle.em_host.specs.declared.call.Call.{Call}
use Rattle.em_host.specs.declared.call.Call.TheVariants.{Print}
use Rattle.em_host.specs.declared.no.HostNo.{HostNo}
use Rattle.em_host.specs.declared.no.HostNo.TheVariants as host_no
use Rattle.em_host.specs.Outside.{Outside, Tells, Prints}
use Rattle.em_host.specs.Calls.{Makes, FailsIn}
use Rattle.em_host.proofs.Telling.{Tells-weaken, Tells-same, makes_none, makes_then, front_none, front_then, fails_then, print_went}
use Rattle.em_workers.specs.declared.no.BuildNo.{BuildNo}
use Rattle.em_workers.specs.declared.no.BuildNo.TheVariants as no
use Rattle.em_workers.specs.Printing.{print, prints, Says, BrokeOff, Said, faults_after, build_no}

pub says_then : {A : Type 0} (a b : List Call) (r : Result A BuildNo) (x y z : Outside) → Makes a x y → Says b r y z → Says (a ++ b) r x z
says_then a b (Ok u) x y z p q = makes_then a b x y z p q
says_then a b (Err no.Host) x y z p q = fails_then true a b x y z p q
says_then a b (Err no.NoMemory) x y z p q = ⊎_elim (λ f. inl (front_then a b x y z p f)) (λ f. inr (f.0, fails_then f.0 a b x y z p f.1)) q

pub same_no : (A B : Type 0) (calls : List Call) (e : BuildNo) (x y : Outside) → Says {A = A} calls (Err e) x y → Says {A = B} calls (Err e) x y
same_no A B calls no.Host x y p = p
same_no A B calls no.NoMemory x y p = p

prints_then : (a b : List (List ℕ)) → prints (a ++ b) ≡ prints a ++ prints b
prints_then a b = flat_map-append print a b

pub said_lost : (outs : List (List ℕ)) (x y : Outside) → Makes (prints outs) x y → BrokeOff outs no.NoMemory x y
said_lost outs x y p = record {
  front = outs;
  last = [];
  all = sym (append-nil outs);
  few = omega arith;
  between = y;
  whole = p;
  rest = inl (front_none [] y);
}

pub said_one : {A : Type 0} (text : List ℕ) (r : Result A BuildNo) (x y : Outside) → Says (print text) r x y → Said (text ∷ []) r x y
said_one text (Ok a) x y p = subst (λ (calls : List Call). Makes calls x y) (sym (append-nil (print text))) p
said_one {A} text (Err e) x y p = record {
  front = [];
  last = text ∷ [];
  all = refl;
  few = omega arith;
  between = x;
  whole = makes_none x;
  rest = subst (λ (calls : List Call). Says {A = Unit {0}} calls (Err e) x y) (sym (append-nil (print text))) (same_no A (Unit {0}) (print text) e x y p);
}

pub said_then : {A : Type 0} (a b : List (List ℕ)) (r : Result A BuildNo) (x y z : Outside) → Makes (prints a) x y → Said b r y z → Said (a ++ b) r x z
said_then a b (Ok u) x y z p q = subst (λ (calls : List Call). Makes calls x z) (sym (prints_then a b)) (makes_then (prints a) (prints b) x y z p q)
said_then a b (Err e) x y z p q = record {
  front = a ++ q.front;
  last = q.last;
  all = ap (λ (l : List (List ℕ)). a ++ l) q.all ∙ sym (append_assoc a q.front q.last);
  few = q.few;
  between = q.between;
  whole = subst (λ (calls : List Call). Makes calls x q.between) (sym (prints_then a q.front)) (makes_then (prints a) (prints q.front) x y q.between p q.whole);
  rest = q.rest;
}

pub said_says : {A : Type 0} (outs : List (List ℕ)) (r : Result A BuildNo) (x y : Outside) → Said outs r x y → Says (prints outs) r x y
said_says outs (Ok a) x y p = p
said_says {A} outs (Err e) x y p =
    subst (λ (calls : List Call). Says {A = A} calls (Err e) x y) (sym (ap prints p.all ∙ prints_then p.front p.last))
    (says_then {A = A} (prints p.front) (prints p.last) (Err e) x p.between y p.whole (same_no (Unit {0}) A (prints p.last) e p.between y p.rest))

module _ (text : List ℕ) where
  alone : (length text == 0) ≡ false → print text ≡ Print text ∷ []
  alone given = ap (λ (b : Bool). cond b [] (Print text ∷ [])) given

  pub said_nothing : {A : Type 0} (a : A) (x : Option Outside) → (length text == 0) ≡ true → Tells (Says (print text) (Ok a)) x x
  said_nothing a x empty =
      Tells-same (Says (print text) (Ok a)) x (λ y. subst (λ (b : Bool). Makes (cond b [] (Print text ∷ [])) y y) (sym empty) (makes_none y))

  went : (A : Type 0) (e : HostNo) (calls : List Call) (x y : Outside) → calls ≡ Print text ∷ [] → Prints text (Err e) x y → Says {A = A} calls (Err (build_no e)) x y
  went A host_no.Failed calls x y is p = subst (λ (c : List Call). FailsIn true c x y) (sym is) (print_went text (Err host_no.Failed) x y p)
  went A host_no.NoMemory calls x y is p =
      inr (subst (λ (c : List Call). (is_noted : Bool) × FailsIn is_noted c x y) (sym is) (print_went text (Err host_no.NoMemory) x y p))

  module _ (x y : Option Outside) where
    pub said : (u : Unit {0}) → (length text == 0) ≡ false → Tells (Prints text (Ok u)) x y → Tells (Says (print text) (Ok u)) x y
    said u given p = Tells-weaken x y (λ v w h. subst (λ (c : List Call). Makes c v w) (sym (alone given)) (print_went text (Ok u) v w h)) p

    pub not_said : (r : Result (Unit {0}) BuildNo) (e : HostNo) → (length text == 0) ≡ false → IsErrAnd r (λ s. s ≡ build_no e) → Tells (Prints text (Err e)) x y → Tells (Says (print text) r) x y
    not_said (Ok u) e given is p = absurd is
    not_said (Err s) e given is p = subst (λ (t : BuildNo). Tells (Says {A = Unit {0}} (print text) (Err t)) x y) (sym is) (Tells-weaken x y (λ v w h. went (Unit {0}) e (print text) v w (alone given) h) p)

pub as_said : (A : Type 0) {B : Type 0} (calls : List Call) (e : BuildNo) (r : Result B BuildNo) (x y : Option Outside) → IsErrAnd r (λ s. s ≡ e) → Tells (Says {A = A} calls (Err e)) x y → Tells (Says calls r) x y
as_said A calls e (Ok b) x y is p = absurd is
as_said A {B} calls e (Err s) x y is p = subst (λ (t : BuildNo). Tells (Says {A = B} calls (Err t)) x y) (sym is) (Tells-weaken x y (λ v w h. same_no A B calls e v w h) p)

same_count : (A B : Type 0) (e : BuildNo) (n : ℕ) → faults_after {A = A} (Err e) n ≡ faults_after {A = B} (Err e) n
same_count A B no.Host n = refl
same_count A B no.NoMemory n = refl

-- the count of faults at a `?`
pub faults_left : (A : Type 0) {B : Type 0} (e : BuildNo) (r : Result B BuildNo) (k n : ℕ) → IsErrAnd r (λ s. s ≡ e) → k ≡ faults_after {A = A} (Err e) n → k ≡ faults_after r n
faults_left A e (Ok b) k n is counted = absurd is
faults_left A {B} e (Err s) k n is counted = counted ∙ same_count A B e n ∙ ap (λ (t : BuildNo). faults_after {A = B} (Err t) n) (sym is)
