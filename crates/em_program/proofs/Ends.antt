-- What the parts before a build come to.
--     failed-so          a refusal of the image is what reading gives
--     entered_dir, book_ok ..      the working directory, and the makefiles
use Rattle.std.proofs.Common.{◌≡◌, ℕ, ◌≤◌, ◌<◌, ◌^◌, Bool, true, false, cond, ◌||◌, List, [], ◌∷◌, length, map, Some, None, Result, Ok, Err, nat_lt, refl, sym, ap, ◌∙◌, arith}
use Rattle.std.specs.Prelude.{IfOk, IsErr}
use Rattle.std.specs.List.{list_any}
use Rattle.std.specs.FinMap.{entries, get}
use Rattle.std.proofs.lemmas.Bool.{false≢true}
use Rattle.em_tree.specs.Trees.{Table, greatest, base_of, kind_of, stamp_in}
use Rattle.em_tree.specs.Resolving.{node_behind}
use Rattle.em_view.specs.Actions.{snapshot}
use Rattle.em_reader.specs.Makefiles as makefiles
use Rattle.em_tree.specs.declared.node.Node.{Node}
use Rattle.em_tree.specs.declared.node.Kind.{Kind}
use Rattle.em_tree.specs.declared.node.Kind.TheVariants as kind
use Rattle.em_tree.specs.declared.state.State.{State}
use Rattle.em_path.specs.declared.path.PathNo.{PathNo}
use Rattle.em_path.specs.Paths.{root_text}
use Rattle.em_path.specs.Reading.{read_fault, resolved_text}
use Rattle.em_image.specs.Image.{limits, broken, is_too_late, is_too_big, entries_text}
use Rattle.em_image.specs.Parts.{Fails}
use Rattle.em_image.specs.declared.no.ImageNo.{ImageNo}
use Rattle.em_image.specs.declared.no.ImageNo.TheVariants as no
use Rattle.em_image.specs.declared.no.Which.{Which}
use Rattle.em_image.specs.declared.no.Which.TheVariants as which
use Rattle.em_cmdline.specs.declared.order.Order.{Order}
use Rattle.em_reader.specs.declared.makefiles.Round.{Round}
use Rattle.em_reading.specs.declared.no.ReadNo.{ReadNo}
use Rattle.em_program.specs.declared.verdict.BuildStatus.TheVariants.{Faulty}
use Rattle.em_program.specs.Course.{◌>>=◌, done, say, stop}
use Rattle.em_closing.specs.Refusals.{read_line}
use Rattle.em_program.specs.Messages.{image_line}
use Rattle.em_program.specs.Projects.{no_dir, as_dir, as_path, entered, as_round, round_of}
use Rattle.em_program.specs.Rounds.{based}

-- an answer other than want of memory is what reading gives
pub failed-so : {Y : Type 0} (e : ImageNo) (read : Result Y ImageNo) → (e ≡ no.NoMemory → ⊥) → Fails e read → read ≡ Err e
failed-so (no.Form at) read other h = h
failed-so (no.Number at) read other h = h
failed-so (no.Path at) read other h = h
failed-so (no.Order at) read other h = h
failed-so (no.Parent at) read other h = h
failed-so (no.Short at) read other h = h
failed-so (no.Rest at) read other h = h
failed-so (no.Limit w at) read other h = h
failed-so no.NoMemory read other h = absurd (other refl)

-- ---- the parts of a project

-- a directory, another kind, and no path
pub entered_dir : (t : Table) (name path : List ℕ) → read_fault root_text name ≡ None → path ≡ resolved_text root_text name → kind_of (node_behind t path) ≡ kind.Dir → entered t name ≡ done path
entered_dir t name path none is dir =
    ap (as_path t name) none ∙ ap (as_dir name (resolved_text root_text name)) (ap (λ (p : List ℕ). kind_of (node_behind t p)) (sym is) ∙ dir) ∙ ap done (sym is)

other_kind : (name path : List ℕ) (k : Kind) → (k ≡ kind.Dir → ⊥) → as_dir name path k ≡ no_dir name
other_kind name path kind.Dir other = absurd (other refl)
other_kind name path kind.File other = refl
other_kind name path kind.Absent other = refl
other_kind name path kind.Link other = refl

pub entered_other : (t : Table) (name path : List ℕ) → read_fault root_text name ≡ None → path ≡ resolved_text root_text name → (kind_of (node_behind t path) ≡ kind.Dir → ⊥) → entered t name ≡ no_dir name
entered_other t name path none is other =
    ap (as_path t name) none ∙ other_kind name _ _ (λ (dir : kind_of (node_behind t (resolved_text root_text name)) ≡ kind.Dir). other (ap (λ (p : List ℕ). kind_of (node_behind t p)) is ∙ dir))

pub entered_none : (t : Table) (name : List ℕ) (e : PathNo) → read_fault root_text name ≡ Some e → entered t name ≡ no_dir name
entered_none t name e named = ap (as_path t name) named

abbrev pub reading_from : Order → State → List ℕ → Result (Round × List ℕ) (ReadNo × List ℕ)
reading_from order start said = (makefiles.round order (resolved_text root_text order.dir) [] said (snapshot start) makefiles.fresh).0

-- what was said before is nothing
pub round_ok : (order : Order) (start : State) (found : Round) (none said : List ℕ) → none ≡ [] → (let r : Result (Round × List ℕ) (ReadNo × List ℕ) = Ok (found, said) in r ≡ reading_from order start none)
    → round_of order start ≡ (say said >>= (λ (u : Unit {0}). done found))
round_ok order start found none said empty e = ap as_round (sym (e ∙ ap (reading_from order start) empty))

pub round_err : (order : Order) (start : State) (fault : ReadNo) (none said : List ℕ) → none ≡ [] → (let r : Result (Round × List ℕ) (ReadNo × List ℕ) = Err (fault, said) in r ≡ reading_from order start none)
    → round_of order start ≡ (say said >>= (λ (u : Unit {0}). stop (read_line fault) Faulty))
round_err order start fault none said empty e = ap as_round (sym (e ∙ ap (reading_from order start) empty))

pub if_err : {A E : Type 0} (P : A → Type 0) (r : Result A E) → IsErr r → IfOk r P
if_err P (Ok a) h = absurd (false≢true h)
if_err P (Err e) h = tt

-- ---- the base of a round

is_less : (m n : ℕ) → m < n → nat_lt m n ≡ true
is_less m n low = grind (arith, low)

is_no_less : (m n : ℕ) → n ≤ m → nat_lt m n ≡ false
is_no_less m n low = grind (arith, low)

pub base_high : (t : Table) → 2 ^ 62 < base_of t → based t ≡ stop (image_line (no.Limit which.Stamp 0)) Faulty
base_high t high = rw (is_less (2 ^ 62) (base_of t) high) refl

pub base_low : (t : Table) → base_of t ≤ 2 ^ 62 → based t ≡ done tt
base_low t low = rw (is_no_less (2 ^ 62) (base_of t) low) refl
