-- The expansion of a text: what stands before its first reference, the reference's meaning, the
-- expansion of the rest.
--     expansion vars cwd place text       the whole
--     expand_text left set frames text out    a text in which so many references may stand in one another
--     reference left set frames ..        a reference or a call, with what it costs
-- `out` is the text that is being made: each of these puts its result behind it. `deeper` expands
-- the texts inside a reference, one level deeper. What `info` and `warning` say and the texts for
-- `eval` are the state.
use Rattle.std.specs.Prelude.{ℕ, zero, suc, ◌-◌, nat_lt, Bool, true, false, not, List, [], ◌∷◌, ◌++◌, length, unwrap_or, Option, Some, None, Result, Ok, Err, codes, if◌then◌else◌}
use Rattle.em_base.specs.Blanks.{trimmed}
use Rattle.em_base.specs.Spans.{cut}
use Rattle.em_base.specs.declared.place.Place.{Place}
use Rattle.em_refs.specs.declared.part.Bracket.{Bracket}
use Rattle.em_refs.specs.declared.part.Part.{Part}
use Rattle.em_refs.specs.declared.part.Part.TheVariants.{Literal, Dollar, Ref}
use Rattle.em_refs.specs.Parts.{parted, bracket_before}
use Rattle.em_vars.specs.Entries.{Entries}
use Rattle.em_wordlist.specs.Words.{words_of}
use Rattle.em_textfn.specs.declared.no.TextfnNo.{TextfnNo}
use Rattle.em_textfn.specs.Functions.{text_function}
use Rattle.em_namefn.specs.Functions.{name_function}
use Rattle.em_namefn.specs.Wildcards.{wildcard}
use Rattle.em_view.specs.Rows.{blocks}
use Rattle.em_view.specs.Steps.{with_state, done, refuse, own, below}
use Rattle.em_view.specs.Do.{◌>>=◌}
use Rattle.em_expand.specs.declared.no.ExpandNo.{ExpandNo}
use Rattle.em_expand.specs.declared.no.ExpandNo.TheVariants as no
use Rattle.em_expand.specs.declared.spoken.Spoken.{Spoken}
use Rattle.em_expand.specs.declared.table.FunctionKind.{FunctionKind}
use Rattle.em_expand.specs.declared.table.FunctionKind.TheVariants.{Refused, If, Or, And, Foreach, Call, Plain}
use Rattle.em_expand.specs.declared.text.Setting as code
use Rattle.em_expand.specs.declared.table.SimpleFunction as declared
use Rattle.em_expand.specs.declared.table.SimpleFunction.TheVariants.{Text, Name, Wildcard, Value, Origin, Flavour, Eval, Info, Warning, Error}
use Rattle.em_expand.specs.Desks.{Says, of_desk, pay}
use Rattle.em_expand.specs.Layered.{entries_of}
use Rattle.em_expand.specs.Scopes.{Frame, each, called, within, nth, is_open, argument}
use Rattle.em_expand.specs.Table.{Row}
use Rattle.em_expand.specs.Calls as calls
use Rattle.em_expand.specs.Calls.{call_of, Substitution, substitution_of, with_percent}
use Rattle.em_expand.specs.Values.{Stands, plain, recursive, meaning_of, text_of, origin_of, flavour_of, warned}

-- what stays the same throughout an expansion
pub record Setting : Type 0 where
  pub vars : Entries
  pub cwd : List ℕ
  pub place : Place

abbrev pub setting_of : code.Setting → Setting
setting_of s = record { vars = entries_of s.vars.now; cwd = s.cwd.now; place = s.place.now }

-- how a text one level deeper is expanded
abbrev pub Deeper : Type 0
Deeper = List Frame → List ℕ → List ℕ → Says (List ℕ)

-- a value or an error that is known without a desk
abbrev pub gives : Result (List ℕ) ExpandNo → Says (List ℕ)
gives r = own (with_state r)

-- as long as there are enough arguments
abbrev pub enough : Row → List (List ℕ) → Says (List ℕ) → Says (List ℕ)
enough row args m = if nat_lt (length args) row.least then refuse (no.BadArgument row.name) else m

-- ---- variables

abbrev pub put_variable : Deeper → List Frame → List ℕ → Stands → List ℕ → Says (List ℕ)
put_variable deeper frames name (plain t) out = done (out ++ t)
put_variable deeper frames name (recursive t) out =
    if is_open frames name then refuse (no.SelfReference name) else deeper (within name ∷ frames) t out

-- a recursive variable may not be referred to while it is being expanded
unfoldable pub variable : Deeper → Entries → List Frame → List ℕ → List ℕ → Says (List ℕ)
variable deeper vars frames name out = put_variable deeper frames name (meaning_of vars frames name) out

-- ---- functions whose arguments were expanded before

-- what a function of texts gives
abbrev pub text_value : List ℕ → Result (Option (List ℕ)) TextfnNo → List ℕ → Result (List ℕ) ExpandNo
text_value name (Ok t) out = Ok (out ++ unwrap_or t [])
text_value name (Err e) out = Err (no.BadArgument name)

unfoldable pub put_wildcard : List ℕ → List ℕ → List ℕ → Says (List ℕ)
put_wildcard cwd patterns out = do
  names ← below of_desk (wildcard patterns cwd)
  done (out ++ names)

abbrev pub say : List ℕ → List ℕ → Spoken → Result (List ℕ × Spoken) (ExpandNo × Spoken)
say t out s = Ok (out, record s { said = s.said ++ t })

abbrev pub keep : List ℕ → List ℕ → Spoken → Result (List ℕ × Spoken) (ExpandNo × Spoken)
keep t out s = Ok (out, record s { evals = s.evals ++ t ∷ [] })

abbrev pub put_plain : Setting → List Frame → List ℕ → declared.SimpleFunction → List (List ℕ) → List ℕ → Says (List ℕ)
put_plain set frames name Text args out = gives (text_value name (text_function name args) out)
put_plain set frames name Name args out = done (out ++ unwrap_or (name_function name args) [])
put_plain set frames name Wildcard args out = put_wildcard set.cwd (nth 0 args) out
put_plain set frames name Value args out = done (out ++ text_of set.vars frames (nth 0 args))
put_plain set frames name Origin args out = done (out ++ origin_of set.vars frames (nth 0 args))
put_plain set frames name Flavour args out = done (out ++ flavour_of set.vars frames (nth 0 args))
put_plain set frames name Eval args out = own (keep (nth 0 args) out)
put_plain set frames name Info args out = own (say (nth 0 args ++ 10 ∷ []) out)
put_plain set frames name Warning args out = own (say (warned set.place (nth 0 args)) out)
put_plain set frames name Error args out = refuse (no.UserError (nth 0 args))

-- all arguments from the left
abbrev pub arguments : Deeper → List Frame → List (List ℕ) → List (List ℕ) → Says (List (List ℕ))
arguments deeper frames [] so_far = done so_far
arguments deeper frames (a ∷ args) so_far = do
  value ← deeper frames a []
  arguments deeper frames args (so_far ++ value ∷ [])

-- ---- functions that expand their arguments themselves

-- the text behind a condition that isn't empty, or the one behind that
abbrev pub picked : List ℕ → List (List ℕ) → List ℕ
picked [] args = nth 2 args
picked (c ∷ cs) args = nth 1 args

unfoldable pub choose : Deeper → List Frame → List (List ℕ) → List ℕ → Says (List ℕ)
choose deeper frames args out = do
  condition ← deeper frames (trimmed (nth 0 args)) []
  deeper frames (picked condition args) out

-- `or` ends at a value that isn't empty, `and` at one that is
abbrev pub ends : Bool → List ℕ → Bool
ends filled [] = not filled
ends filled (b ∷ bs) = filled

-- the first value that ends it, else the last one
abbrev pub until : Deeper → List Frame → Bool → List (List ℕ) → List ℕ → List ℕ → Says (List ℕ)
until deeper frames filled [] last out = done (out ++ last)
until deeper frames filled (a ∷ args) last out = do
  value ← deeper frames (trimmed a) []
  if ends filled value then done (out ++ value) else until deeper frames filled args value out

-- the text for each word that is left, behind a gap
abbrev pub turns : Deeper → List Frame → List ℕ → List ℕ → List (List ℕ) → List ℕ → List ℕ → Says (List ℕ)
turns deeper frames name text [] gap out = done out
turns deeper frames name text (w ∷ words) gap out = do
  u ← pay 1
  all ← deeper (each name w ∷ frames) text (out ++ gap)
  turns deeper frames name text words (32 ∷ []) all

unfoldable pub foreach : Deeper → List Frame → List (List ℕ) → List ℕ → Says (List ℕ)
foreach deeper frames args out = do
  name ← deeper frames (nth 0 args) []
  list ← deeper frames (nth 1 args) []
  turns deeper frames (trimmed name) (nth 2 args) (words_of list) [] out

-- the text of the variable that is called: a recursive one's is expanded with the arguments bound
-- to numbers. A call is no reference to the variable
abbrev pub put_called : Deeper → List Frame → List (List ℕ) → Stands → List ℕ → Says (List ℕ)
put_called deeper frames args (plain t) out = done (out ++ t)
put_called deeper frames args (recursive t) out = deeper (called args ∷ frames) t out

unfoldable pub call : Deeper → Entries → List Frame → List (List ℕ) → List ℕ → Says (List ℕ)
call deeper vars frames args out = put_called deeper frames args (meaning_of vars frames (argument args 0)) out

-- ---- references

abbrev pub put_call : Deeper → Setting → List Frame → Row → FunctionKind → List (List ℕ) → List ℕ → Says (List ℕ)
put_call deeper set frames row Refused args out = refuse (no.Refused row.name)
put_call deeper set frames row If args out = enough row args (choose deeper frames args out)
put_call deeper set frames row Or args out = until deeper frames true args [] out
put_call deeper set frames row And args out = until deeper frames false args [] out
put_call deeper set frames row Foreach args out = enough row args (foreach deeper frames args out)
put_call deeper set frames row Call args out = do
  values ← arguments deeper frames args []
  call deeper set.vars frames values out
put_call deeper set frames row (Plain f) args out = do
  values ← arguments deeper frames args []
  enough row values (put_plain set frames row.name f values out)

-- `x:a=b` is `patsubst` of x's value
abbrev pub substituted : Substitution → List ℕ → List ℕ → Result (List ℕ) ExpandNo
substituted s value out = text_value (codes "patsubst") (text_function (codes "patsubst") (with_percent s.from s.from ∷ with_percent s.from s.to ∷ value ∷ [])) out

abbrev pub put_name : Deeper → Setting → List Frame → Option Substitution → List ℕ → List ℕ → Says (List ℕ)
put_name deeper set frames None name out = variable deeper set.vars frames name out
put_name deeper set frames (Some s) name out = do
  value ← variable deeper set.vars frames s.name []
  gives (substituted s value out)

-- a name is expanded first
unfoldable pub named : Deeper → Setting → List Frame → List ℕ → List ℕ → Says (List ℕ)
named deeper set frames inner out = do
  name ← deeper frames inner []
  put_name deeper set frames (substitution_of name) name out

abbrev pub put_inner : Deeper → Setting → List Frame → Option calls.Call → List ℕ → List ℕ → Says (List ℕ)
put_inner deeper set frames (Some c) inner out = put_call deeper set frames c.row c.row.function c.args out
put_inner deeper set frames None inner out = named deeper set frames inner out

-- what the text in a reference's brackets asks for
unfoldable pub evaluate : Deeper → Setting → List Frame → Option Bracket → List ℕ → List ℕ → Says (List ℕ)
evaluate deeper set frames bracket inner out = put_inner deeper set frames (call_of bracket inner) inner out

-- ---- texts

-- how a reference is expanded: the kind of its brackets, the text in them
abbrev pub Refers : Type 0
Refers = Option Bracket → List ℕ → List ℕ → Says (List ℕ)

abbrev pub put_part : Refers → List ℕ → Part → List ℕ → Says (List ℕ)
put_part refer text (Literal s) out = done (out ++ cut text s)
put_part refer text Dollar out = done (out ++ 36 ∷ [])
put_part refer text (Ref s) out = refer (bracket_before text s) (cut text s) out

-- at a reference that isn't closed
abbrev pub put_end : Option ℕ → List ℕ → Says (List ℕ)
put_end None out = done out
put_end (Some at) out = refuse no.Unclosed

abbrev pub put_parts : Refers → List ℕ → Option ℕ → List Part → List ℕ → Says (List ℕ)
put_parts refer text unclosed [] out = put_end unclosed out
put_parts refer text unclosed (p ∷ parts) out = do
  all ← put_part refer text p out
  put_parts refer text unclosed parts all

abbrev pub put_text : Refers → List ℕ → List ℕ → Says (List ℕ)
put_text refer text out = put_parts refer text (parted text).unclosed (parted text).parts out

-- a unit before, and the blocks of the result behind it
unfoldable pub reference : ℕ → Setting → List Frame → Option Bracket → List ℕ → List ℕ → Says (List ℕ)
reference zero set frames bracket inner out = refuse no.TooDeep
reference (suc left) set frames bracket inner out = do
  u ← pay 1
  all ← evaluate (λ fs text so_far. put_text (reference left set fs) text so_far) set frames bracket inner out
  v ← pay (blocks (length all - length out))
  done all

abbrev pub expand_text : ℕ → Setting → List Frame → List ℕ → List ℕ → Says (List ℕ)
expand_text left set frames text out = put_text (reference left set frames) text out

-- at most so many references and calls stand in one another
abbrev pub levels : ℕ
levels = 200

unfoldable pub expansion : Entries → List ℕ → Place → List ℕ → Says (List ℕ)
expansion vars cwd place text = expand_text levels (record { vars = vars; cwd = cwd; place = place }) [] text []
