-- Questions whether something stands at a path, each of which hangs on the answers before it.
--     Asking A          a value, or a question and what follows each answer
--     and_then x k      one after another
--     told f x          the value, where f tells what stands where
--     acted x           the same over a desk, where a question is the kind of the path
--     Follows ..        from one moment of who answers to a later one the questions were asked and answered so
--     Stops ..          the same up to a refusal
--     Asked ..          the questions came to this value or this refusal
use Rattle.std.specs.Prelude.{ℕ, Bool, true, false, List, Result, Ok, Err}
use Rattle.em_tree.specs.declared.node.Kind.{Kind}
use Rattle.em_tree.specs.declared.node.Kind.TheVariants as kind
use Rattle.em_view.specs.declared.no.DeskNo.{DeskNo}
use Rattle.em_view.specs.declared.no.DeskNo.TheVariants as no
use Rattle.em_view.specs.Actions.{Action, ◌>>=◌, done}
use Rattle.em_view.specs.Rows.{kind_at}

pub data Asking (A : Type 0) : Type 0 where
  Had : A → Asking A
  Ask : List ℕ → (Bool → Asking A) → Asking A

abbrev pub and_then : {A B : Type 0} → Asking A → (A → Asking B) → Asking B
and_then (Had a) k = k a
and_then (Ask p x) k = Ask p (λ b. and_then (x b) k)

abbrev pub told : {A : Type 0} → (List ℕ → Bool) → Asking A → A
told f (Had a) = a
told f (Ask p k) = told f (k (f p))

abbrev pub is_something : Kind → Bool
is_something kind.Absent = false
is_something _ = true

abbrev pub acted : {A : Type 0} → Asking A → Action DeskNo A
acted (Had a) = done a
acted (Ask p k) = kind_at p >>= (λ d. acted (k (is_something d)))

-- what one question does to who answers, from one moment to the next, and its answer
abbrev pub Asks : Type 0 → Type 1
Asks T = T → T → List ℕ → Result Bool DeskNo → Type 0

pub data Follows {T A : Type 0} (asks : Asks T) : T → T → Asking A → Asking A → Type 0 where
  Here : (a : T) (x : Asking A) → Follows asks a a x x
  Then : (a b c : T) (p : List ℕ) (k : Bool → Asking A) (y : Asking A) (v : Bool) → asks a b p (Ok v) → Follows asks b c (k v) y → Follows asks a c (Ask p k) y

-- memory was short between two questions, or one of them was refused
pub data Stops {T A : Type 0} (asks : Asks T) : T → T → DeskNo → Asking A → Type 0 where
  Lacks : (a : T) (x : Asking A) → Stops asks a a no.NoMemory x
  Refuses : (a b : T) (p : List ℕ) (k : Bool → Asking A) (e : DeskNo) → asks a b p (Err e) → Stops asks a b e (Ask p k)
  Goes : (a b c : T) (p : List ℕ) (k : Bool → Asking A) (v : Bool) (e : DeskNo) → asks a b p (Ok v) → Stops asks b c e (k v) → Stops asks a c e (Ask p k)

abbrev pub Asked : {T A : Type 0} → Asks T → T → T → Result A DeskNo → Asking A → Type 0
Asked asks a b (Ok v) x = Follows asks a b x (Had v)
Asked asks a b (Err e) x = Stops asks a b e x
