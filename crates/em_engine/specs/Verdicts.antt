-- What a front finds of a run.
--     IsFirstApart es fs i      i is the first number at which the lists differ
--     IsFirstWrong s es i       i is the number of the first entry with which the state disagrees
--     IsVerdict eq s next r asked v      v is what is to be found of the run r that was answered so, where next is the next spec
use Rattle.std.specs.Prelude.{◌≡◌, ◌≢◌, ◌<◌, ℕ, List, Bool, true, false, IfSome, IsSomeAnd, slice_get}
use Rattle.em_tree.specs.declared.question.Entry.{Entry}
use Rattle.em_tree.specs.declared.state.State.{State}
use Rattle.em_tree.specs.Answers.{answer, Agrees}
use Rattle.em_run.specs.declared.run.Parts.{Parts}
use Rattle.em_engine.specs.declared.note.Verdict.{Verdict}
use Rattle.em_engine.specs.declared.note.Verdict.TheVariants as found

pub record IsFirstApart (es fs : List Entry) (i : ℕ) : Type 0 where
  pub apart : slice_get es i ≢ slice_get fs i
  pub before : (k : ℕ) → k < i → slice_get es k ≡ slice_get fs k

abbrev pub AgreesAt : State → Entry → Type 0
AgreesAt s e = answer s e.question ≡ e.answer

pub record IsFirstWrong (s : State) (es : List Entry) (i : ℕ) : Type 0 where
  pub wrong : IsSomeAnd (slice_get es i) (λ e. ¬ AgreesAt s e)
  pub before : (k : ℕ) → k < i → IfSome (slice_get es k) (AgreesAt s)

abbrev pub IsVerdict : {S : Type 0} → (S → S → Bool) → State → S → Parts S → List Entry → Verdict → Type 0
IsVerdict eq s next r asked found.Foreign = eq r.spec next ≡ false
IsVerdict eq s next r asked (found.Strange i) = (eq r.spec next ≡ true) × IsFirstApart r.usage asked i
IsVerdict eq s next r asked (found.Differ i) = (eq r.spec next ≡ true) × (r.usage ≡ asked) × IsFirstWrong s r.usage i
IsVerdict eq s next r asked found.Same = (eq r.spec next ≡ true) × (r.usage ≡ asked) × Agrees s r.usage
