-- `test`: what an expression says of words and of a tree.
--     says form ws       what it says: that it holds or not, that a word is no number, or that it is no expression
--     answer n v         what is written, and the status; n tells whether it is negated
use Rattle.std.specs.Prelude.{ℕ, nat_eq, nat_lt, slice_get, unwrap_or, Bool, true, false, not, is_some, List, [], ◌∷◌, length, codes, Option, Some, None, Result, Ok, Err, if◌then◌else◌, ℤ}
use Rattle.std.specs.Cmp.Lexicographic.{pointwise}
use Rattle.em_base.specs.declared.construct.Construct.{Construct}
use Rattle.em_base.specs.declared.construct.Construct.TheVariants.{Letter}
use Rattle.em_path.specs.declared.path.PathNo.{PathNo}
use Rattle.em_path.specs.Reading.{read_fault, resolved_text}
use Rattle.em_tree.specs.declared.node.Kind.{Kind}
use Rattle.em_tree.specs.declared.node.Kind.TheVariants as kind
use Rattle.em_view.specs.declared.done.Done.{Done}
use Rattle.em_view.specs.declared.done.ExecNo.{ExecNo}
use Rattle.em_view.specs.declared.done.ExecNo.TheVariants.{Refused}
use Rattle.em_view.specs.Actions.{Action, ◌>>=◌, done, fail, lift}
use Rattle.em_view.specs.Rows.{kind_at, stamp_at, content, link_at}
use Rattle.em_view.specs.Ends.{of_desk}
use Rattle.em_lineutil.specs.declared.test.Unary.{Unary}
use Rattle.em_lineutil.specs.declared.test.Unary.TheVariants as unary
use Rattle.em_lineutil.specs.declared.test.Relation.{Relation}
use Rattle.em_lineutil.specs.declared.test.Binary.{Binary}
use Rattle.em_lineutil.specs.declared.test.Binary.TheVariants as binary
use Rattle.em_lineutil.specs.declared.test.Form.{Form}
use Rattle.em_lineutil.specs.declared.test.Form.TheVariants as form
use Rattle.em_lineutil.specs.Formats.{number_of}
use Rattle.em_lineutil.specs.Tests.{form_of, stripped, is_related}
use Rattle.em_utility.specs.declared.reason.Reason.TheVariants.{NotANumber}
use Rattle.em_utility.specs.Writing.{nothing, faulted}
use Rattle.em_textutil.specs.declared.expression.ExpressionResult.{ExpressionResult}
use Rattle.em_textutil.specs.declared.expression.ExpressionResult.TheVariants.{Is, Strange, Syntax}

-- ---- what is asked of a name; one that is no path is absent, and isn't asked

abbrev pub path_by : Option PathNo → List ℕ → Option (List ℕ)
path_by None p = Some p
path_by (Some fault) p = None

abbrev pub path_of : List ℕ → List ℕ → Option (List ℕ)
path_of cwd name = path_by (read_fault cwd name) (resolved_text cwd name)

abbrev pub kind_by : Option (List ℕ) → Action ExecNo Kind
kind_by None = done kind.Absent
kind_by (Some p) = lift of_desk (kind_at p)

abbrev pub stamp_by : Option (List ℕ) → Action ExecNo (Option ℕ)
stamp_by None = done None
stamp_by (Some p) = lift of_desk (stamp_at p)

abbrev pub content_by : Option (List ℕ) → Action ExecNo (Option (List ℕ))
content_by None = done None
content_by (Some p) = lift of_desk (content p)

abbrev pub link_by : Option (List ℕ) → Action ExecNo (Option (List ℕ))
link_by None = done None
link_by (Some p) = lift of_desk (link_at p)

-- ---- operators

-- the kind is what the operator asks for
abbrev pub is_of : Unary → Kind → Bool
is_of unary.Exists kind.File = true
is_of unary.Exists kind.Dir = true
is_of unary.Exists kind.Link = true
is_of unary.IsFile kind.File = true
is_of unary.IsDir kind.Dir = true
is_of _ _ = false

abbrev pub is_filled : List ℕ → Bool
is_filled w = nat_lt 0 (length w)

abbrev pub has_bytes : Option (List ℕ) → Bool
has_bytes None = false
has_bytes (Some bytes) = is_filled bytes

unfoldable pub says_kind : List ℕ → Unary → List ℕ → Action ExecNo ExpressionResult
says_kind cwd u w = do
  k ← kind_by (path_of cwd w)
  done (Is (is_of u k))

unfoldable pub says_bytes : List ℕ → List ℕ → Action ExecNo ExpressionResult
says_bytes cwd w = do
  b ← content_by (path_of cwd w)
  done (Is (has_bytes b))

unfoldable pub says_link : List ℕ → List ℕ → Action ExecNo ExpressionResult
says_link cwd w = do
  l ← link_by (path_of cwd w)
  done (Is (is_some l))

abbrev pub says_unary : List ℕ → Unary → List ℕ → Action ExecNo ExpressionResult
says_unary cwd unary.Filled w = done (Is (is_filled w))
says_unary cwd unary.Empty w = done (Is (not (is_filled w)))
says_unary cwd unary.Exists w = says_kind cwd unary.Exists w
says_unary cwd unary.IsFile w = says_kind cwd unary.IsFile w
says_unary cwd unary.IsDir w = says_kind cwd unary.IsDir w
says_unary cwd unary.HasBytes w = says_bytes cwd w
says_unary cwd unary.IsLink w = says_link cwd w

-- the first word that is no number is named
abbrev pub numbers_say : Relation → Option ℤ → Option ℤ → List ℕ → List ℕ → ExpressionResult
numbers_say r None y a b = Strange a
numbers_say r (Some x) None a b = Strange b
numbers_say r (Some x) (Some y) a b = Is (is_related r x y)

-- both are there
abbrev pub is_above : Option ℕ → Option ℕ → Bool
is_above (Some s) (Some t) = nat_lt t s
is_above _ _ = false

-- the first, or else the second, is the newer one
abbrev pub is_newest : Bool → Option ℕ → Option ℕ → Bool
is_newest first s t = if first then is_above s t else is_above t s

-- the stamps of both are asked, from left to right
unfoldable pub says_stamps : List ℕ → Bool → List ℕ → List ℕ → Action ExecNo ExpressionResult
says_stamps cwd first a b = do
  s ← stamp_by (path_of cwd a)
  t ← stamp_by (path_of cwd b)
  done (Is (is_newest first s t))

abbrev pub says_binary : List ℕ → Binary → List ℕ → List ℕ → Action ExecNo ExpressionResult
says_binary cwd binary.Same a b = done (Is (pointwise nat_eq a b))
says_binary cwd binary.Other a b = done (Is (not (pointwise nat_eq a b)))
says_binary cwd (binary.Number r) a b = done (numbers_say r (number_of a) (number_of b) a b)
says_binary cwd binary.Newer a b = says_stamps cwd true a b
says_binary cwd binary.Older a b = says_stamps cwd false a b

abbrev pub letter : ℕ → Construct
letter byte = Letter (codes "test") byte

-- the i-th word, counted from 0
abbrev pub word_at : List (List ℕ) → ℕ → List ℕ
word_at ws i = unwrap_or (slice_get ws i) []

abbrev pub says : List ℕ → Form → List (List ℕ) → Action ExecNo ExpressionResult
says cwd form.Word ws = done (Is (is_filled (word_at ws 0)))
says cwd (form.Unary u) ws = says_unary cwd u (word_at ws 1)
says cwd (form.Binary o) ws = says_binary cwd o (word_at ws 0) (word_at ws 2)
says cwd (form.Letter byte) ws = fail (Refused (letter byte))
says cwd form.Syntax ws = done Syntax

-- ---- what is written

-- a negated expression that holds is false, and so is another that doesn't
abbrev pub truth : Bool → Bool → ℕ
truth true true = 1
truth false false = 1
truth _ _ = 0

abbrev pub answer : Bool → ExpressionResult → Done
answer negated (Is holds) = record { status = truth negated holds; pieces = [] }
answer negated (Strange word) = faulted (codes "test") word NotANumber nothing
answer negated Syntax = record { status = 2; pieces = record { stream = 2; text = codes "emake: test: syntax error\n" } ∷ [] }

unfoldable pub test_words : List ℕ → List (List ℕ) → Action ExecNo Done
test_words cwd ws = do
  v ← says cwd (form_of (stripped false ws).1) (stripped false ws).1
  done (answer (stripped false ws).0 v)
