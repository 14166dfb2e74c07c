-- What asks, pays and says, and changes no file. Each part of an expansion is so.
--     Spares m          the action leaves the changes as they are, however it ends
--     SparesAll m       so do the steps, from any state
--     spares_then, all_then      one after another
use Rattle.std.proofs.Common.{◌≡◌, ◌∙◌, ℕ, zero, suc, Bool, true, false, cond, List, [], ◌∷◌, ◌++◌, Option, Some, None, Result, Ok, Err, refl}
use Rattle.std.specs.Prelude.{nat_lt, length, ◌-◌}
use Rattle.em_base.specs.Blanks.{trimmed}
use Rattle.em_base.specs.declared.place.Place.{Place}
use Rattle.em_refs.specs.declared.part.Bracket.{Bracket}
use Rattle.em_refs.specs.declared.part.Part.{Part}
use Rattle.em_refs.specs.declared.part.Part.TheVariants.{Literal, Dollar, Ref}
use Rattle.em_refs.specs.Parts.{parted}
use Rattle.em_tree.specs.declared.node.Kind.{Kind}
use Rattle.em_tree.specs.declared.node.Node.{Node}
use Rattle.em_glob.specs.declared.glyph.Glyph.{Glyph}
use Rattle.em_glob.specs.Patterns.{is_pattern}
use Rattle.em_pathname.specs.Walking.{components, start, search, look_up_by, look_up, in_dir, in_each, walk, matching_names}
use Rattle.em_namefn.specs.Wildcards.{glyphs_of, each_pattern, wildcard}
use Rattle.em_wordlist.specs.Words.{words_of}
use Rattle.em_vars.specs.Entries.{Entries, value_of}
use Rattle.em_view.specs.declared.no.DeskNo.{DeskNo}
use Rattle.em_view.specs.declared.no.DeskNo.TheVariants as desk
use Rattle.em_view.specs.Actions.{Workspace, Oracle, Action, ◌>>=◌, go_on, done, ask, mine, spend, taken}
use Rattle.em_path.specs.Paths.{parent_text}
use Rattle.em_tree.specs.declared.way.Met.{Met}
use Rattle.em_tree.specs.declared.way.Way.{Way}
use Rattle.em_tree.specs.declared.way.Way.TheVariants.{To, TooMany, Bad}
use Rattle.em_tree.specs.declared.way.Led.{Led}
use Rattle.em_tree.specs.Resolving.{most, levels as link_levels, onward}
use Rattle.em_view.specs.Walking.{link_by, link_below, passed_by, passed_under, passed, pass_above, pass, lead_by, lead_on, too_many, resolve_from, resolve}
use Rattle.em_view.specs.Rows.{blocks, is_dir, kind_by, kind_below, kind_to, kind_at, stamp_by, stamp_below, stamp_to, stamp_at, told_names, amend, made_names, other_names, names_by, names_below, names_to, names, outcome}
use Rattle.em_view.specs.Steps.{Steps, and_then, below, own, within, refuse}
use Rattle.em_view.specs.Steps as steps
use Rattle.em_expand.specs.declared.no.ExpandNo.{ExpandNo}
use Rattle.em_expand.specs.declared.no.ExpandNo.TheVariants as no
use Rattle.em_expand.specs.declared.spoken.Spoken.{Spoken}
use Rattle.em_expand.specs.declared.table.FunctionKind.{FunctionKind}
use Rattle.em_expand.specs.declared.table.FunctionKind.TheVariants.{Refused, If, Or, And, Foreach, Call, Plain}
use Rattle.em_expand.specs.declared.table.SimpleFunction.{SimpleFunction}
use Rattle.em_expand.specs.declared.table.SimpleFunction.TheVariants as plain_function
use Rattle.em_expand.specs.Calls.{Call as Called, Substitution, call_of, substitution_of}
use Rattle.em_expand.specs.Desks.{Says, of_desk, pay}
use Rattle.em_expand.specs.Scopes.{Frame, each, called, within as inside, is_open, argument, nth}
use Rattle.em_expand.specs.Table.{Row}
use Rattle.em_expand.specs.Values.{Stands, plain, recursive, meaning_of}
use Rattle.em_expand.specs.Expansion.{Setting, Deeper, Refers, gives, enough, put_variable, variable, put_wildcard, put_plain, arguments, picked, choose, ends, until, turns, foreach, put_called, call, put_call, substituted, put_name, named, put_inner, evaluate, put_part, put_end, put_parts, put_text, reference, expand_text, levels, expansion}

pub record Spares {E A : Type 0} (m : Action E A) : Type 0 where
  pub by : (o : Oracle) (w : Workspace) → (m o w).1.changes ≡ w.changes

pub record SparesAll {S E A : Type 0} (m : Steps S E A) : Type 0 where
  pub at : (s : S) → Spares (m s)

-- ---- actions

module _ {E A B : Type 0} where
  went : (k : A → Action E B) → ((a : A) → Spares (k a)) → (r : Result A E) (v w : Workspace) (o : Oracle) → v.changes ≡ w.changes → (go_on r v k o).1.changes ≡ w.changes
  went k h (Ok a) v w o e = (h a).by o v ∙ e
  went k h (Err x) v w o e = e

  pub spares_then : {m : Action E A} {k : A → Action E B} → Spares m → ((a : A) → Spares (k a)) → Spares (m >>= k)
  unfolding ◌>>=◌
  spares_then {m} {k} first h = record { by = λ o w. went k h (m o w).0 (m o w).1 w o (first.by o w) }

pub spares_done : {E A : Type 0} (a : A) → Spares (done {E = E} a)
unfolding done
spares_done a = record { by = λ o w. refl }

pub spares_spend : (n : ℕ) → Spares (spend n)
unfolding spend
spares_spend n = record { by = λ o w. by_case w (nat_lt w.fuel n) }
  where
    by_case : (w : Workspace) (b : Bool) → (let z : Result (Unit {0}) DeskNo × Workspace = cond b (Err desk.Spent, w) (Ok tt, record w { fuel = w.fuel - n }) in z).1.changes ≡ w.changes
    by_case w true = refl
    by_case w false = refl

spares_ask : {A : Type 0} (q : _) (f : _ → A) → let m : Action DeskNo A = (ask q >>= λ a. done (f a)) in Spares m
unfolding ◌>>=◌ ask done
spares_ask q f = record { by = λ o w. refl }

spares_mine : {B : Type 0} (p : List ℕ) {k : Option (Option Node) → Action DeskNo B} → ((m : Option (Option Node)) → Spares (k m)) → Spares (mine p >>= k)
unfolding ◌>>=◌ mine
spares_mine p h = record { by = λ o w. (h _).by o w }

spares_amend : (p : List ℕ) (ns : Option (List (List ℕ))) → Spares (amend p ns)
unfolding amend
spares_amend p ns = record { by = λ o w. refl }

kind_below_spares : (p : List ℕ) → Spares (kind_below p)
unfolding kind_below
kind_below_spares p = spares_mine p by_own
  where
    by_own : (m : Option (Option Node)) → Spares (kind_by m p)
    by_own (Some n) = spares_done _
    by_own None = spares_ask _ _

stamp_below_spares : (p : List ℕ) → Spares (stamp_below p)
unfolding stamp_below
stamp_below_spares p = spares_mine p by_own
  where
    by_own : (m : Option (Option Node)) → Spares (stamp_by m p)
    by_own (Some n) = spares_done _
    by_own None = spares_ask _ _

told_spares : (p : List ℕ) → Spares (told_names p)
unfolding told_names
told_spares p = spares_ask _ _

names_below_spares : (p : List ℕ) → Spares (names_below p)
unfolding names_below made_names other_names
names_below_spares p = spares_mine p by_own
  where
    by_dir : (n : Option Node) (b : Bool) → Spares (cond b (made_names p) (done None))
    by_dir n true = spares_then (told_spares p) (λ ns. spares_amend p _)
    by_dir n false = spares_done _

    by_own : (m : Option (Option Node)) → Spares (names_by m p)
    by_own (Some n) = by_dir n (is_dir n)
    by_own None = spares_then (told_spares p) (λ ns. spares_amend p ns)

-- ---- where a path leads

link_below_spares : (p : List ℕ) → Spares (link_below p)
unfolding link_below
link_below_spares p = spares_mine p by_own
  where
    by_own : (m : Option (Option Node)) → Spares (link_by m p)
    by_own (Some n) = spares_done _
    by_own None = spares_ask _ _

passed_by_spares : (dir p : List ℕ) (m : Option Met) → Spares (passed_by dir p m)
passed_by_spares dir p (Some m) = spares_done _
passed_by_spares dir p None = spares_then (link_below_spares p) (λ t. spares_done _)

passed_under_spares : (above : List ℕ → Action DeskNo (Option Met)) → ((q : List ℕ) → Spares (above q)) → (p : List ℕ) (o : Option (List ℕ)) → Spares (passed_under above p o)
passed_under_spares above h p None = spares_done _
passed_under_spares above h p (Some dir) = spares_then (h dir) (passed_by_spares dir p)

passed_spares : (left : ℕ) (p : List ℕ) → Spares (passed left p)
passed_spares zero p = spares_done _
passed_spares (suc left) p = passed_under_spares (passed left) (passed_spares left) p (parent_text p)

pass_above_spares : (o : Option (List ℕ)) → Spares (pass_above o)
pass_above_spares None = spares_done _
pass_above_spares (Some dir) = passed_spares link_levels dir

pass_spares : (last : Bool) (p : List ℕ) → Spares (pass last p)
pass_spares true p = passed_spares link_levels p
pass_spares false p = pass_above_spares (parent_text p)

lead_by_spares : (follow : Met → Action DeskNo Led) → ((m : Met) → Spares (follow m)) → (n : ℕ) (p : List ℕ) (o : Option Met) → Spares (lead_by follow n p o)
lead_by_spares follow h n p None = spares_done _
lead_by_spares follow h n p (Some m) = h m

lead_on_spares : (next : List ℕ → Action DeskNo Led) → ((q : List ℕ) → Spares (next q)) → (n : ℕ) (o : Option (List ℕ)) → Spares (lead_on next n o)
lead_on_spares next h n None = spares_done _
lead_on_spares next h n (Some q) = h q

resolve_from_spares : (last : Bool) (left n : ℕ) (p : List ℕ) → Spares (resolve_from last left n p)
resolve_from_spares last zero n p = spares_then (pass_spares last p) (lead_by_spares (too_many n) (λ m. spares_done _) n p)
resolve_from_spares last (suc left) n p = spares_then (pass_spares last p)
    (lead_by_spares (λ m. lead_on (resolve_from last left (suc n)) n (onward p m)) (λ m. lead_on_spares (resolve_from last left (suc n)) (resolve_from_spares last left (suc n)) n (onward p m)) n p)

pub spares_resolve : (last : Bool) (p : List ℕ) → Spares (resolve last p)
unfolding resolve
spares_resolve last p = resolve_from_spares last most 0 p

kind_to_spares : (way : Way) → Spares (kind_to way)
kind_to_spares (To q) = kind_below_spares q
kind_to_spares TooMany = spares_done _
kind_to_spares Bad = spares_done _

stamp_to_spares : (way : Way) → Spares (stamp_to way)
stamp_to_spares (To q) = stamp_below_spares q
stamp_to_spares TooMany = spares_done _
stamp_to_spares Bad = spares_done _

names_to_spares : (way : Way) → Spares (names_to way)
names_to_spares (To q) = names_below_spares q
names_to_spares TooMany = spares_done _
names_to_spares Bad = spares_done _

pub spares_kind : (p : List ℕ) → Spares (kind_at p)
unfolding kind_at
spares_kind p = spares_then (spares_spend 1) (λ u. spares_then (spares_resolve true p) (λ f. spares_then (kind_to_spares f.way) (λ k. spares_then (spares_spend _) (λ v. spares_done _))))

pub spares_stamp : (p : List ℕ) → Spares (stamp_at p)
unfolding stamp_at
spares_stamp p = spares_then (spares_spend 1) (λ u. spares_then (spares_resolve true p) (λ f. spares_then (stamp_to_spares f.way) (λ s. spares_then (spares_spend _) (λ v. spares_done _))))

spares_names : (p : List ℕ) → Spares (names p)
unfolding names
spares_names p = spares_then (spares_spend 1) (λ u. spares_then (spares_resolve true p) (λ f. spares_then (names_to_spares f.way) (λ ns. spares_then (spares_spend _) (λ v. spares_done _))))

pub spares_outcome : (j : ℕ) → Spares (outcome j)
unfolding outcome
spares_outcome j = spares_then (spares_spend 1) (λ u. spares_ask _ _)

-- ---- path names

spares_found : (f : Option _) → Spares (look_up_by f)
spares_found None = spares_done _
spares_found (Some f) = spares_then (spares_kind f.path) (λ k. spares_done _)

spares_in_dir : (cwd : List ℕ) (c : List Glyph) (dir : _) → Spares (in_dir cwd c dir)
unfolding search look_up
spares_in_dir cwd c dir = by_case (is_pattern c)
  where
    by_case : (b : Bool) → Spares (cond b (search cwd c dir) (look_up cwd c dir))
    by_case true = spares_then (spares_names dir.path) (λ ns. spares_done _)
    by_case false = spares_found _

spares_in_each : (cwd : List ℕ) (c : List Glyph) (so_far dirs : List _) → Spares (in_each cwd c so_far dirs)
spares_in_each cwd c so_far [] = spares_done _
spares_in_each cwd c so_far (dir ∷ dirs) = spares_then (spares_in_dir cwd c dir) (λ more. spares_in_each cwd c (so_far ++ more) dirs)

spares_walk : (cwd : List ℕ) (cs : List (List Glyph)) (dirs : List _) → Spares (walk cwd cs dirs)
spares_walk cwd [] dirs = spares_done _
spares_walk cwd (c ∷ cs) dirs = spares_then (spares_in_each cwd c [] dirs) (λ next. spares_walk cwd cs next)

spares_matching : (cwd : List ℕ) (gs : List Glyph) → Spares (matching_names cwd gs)
unfolding matching_names
spares_matching cwd gs = spares_then (spares_walk cwd (components gs) (start cwd gs)) (λ end. spares_done _)

spares_each : (cwd : List ℕ) (so_far patterns : List (List ℕ)) → Spares (each_pattern cwd so_far patterns)
spares_each cwd so_far [] = spares_done _
spares_each cwd so_far (p ∷ ps) = spares_then (spares_matching cwd (glyphs_of p)) (λ more. spares_each cwd (so_far ++ more) ps)

spares_wildcard : (patterns cwd : List ℕ) → Spares (wildcard patterns cwd)
unfolding wildcard
spares_wildcard patterns cwd = spares_then (spares_each cwd [] (words_of patterns)) (λ ns. spares_done _)

-- ---- steps

module _ {S E A B : Type 0} where
  pub all_then : {m : Steps S E A} {k : A → Steps S E B} → SparesAll m → ((a : A) → SparesAll (k a)) → SparesAll (and_then m k)
  unfolding and_then
  all_then first h = record { at = λ s. spares_then (first.at s) (λ p. (h p.0).at p.1) }

pub all_done : {S E A : Type 0} (a : A) → SparesAll (steps.done {S = S} {E = E} a)
unfolding steps.done
all_done a = record { at = λ s. record { by = λ o w. refl } }

pub all_refuse : {S E A : Type 0} (e : E) → SparesAll (refuse {S = S} {A = A} e)
unfolding refuse
all_refuse e = record { at = λ s. record { by = λ o w. refl } }

pub all_own : {S E A : Type 0} (f : S → Result (A × S) (E × S)) → SparesAll (own f)
unfolding own
all_own f = record { at = λ s. record { by = λ o w. refl } }

pub all_below : {S D E A : Type 0} (f : D → E) {m : Action D A} → Spares m → SparesAll (below {S = S} f m)
unfolding below
all_below f h = record { at = λ s. record { by = λ o w. h.by o w } }

pub all_within : {S T D E A : Type 0} (get : S → T) (put : S → T → S) (f : D → E) {m : Steps T D A} → SparesAll m → SparesAll (within get put f m)
unfolding within
all_within get put f h = record { at = λ s. record { by = λ o w. (h.at (get s)).by o w } }

pub all_by : {S E A : Type 0} {m n : Steps S E A} (b : Bool) → SparesAll m → SparesAll n → SparesAll (cond b m n)
all_by true h g = h
all_by false h g = g

-- ---- expansions

all_pay : (n : ℕ) → SparesAll (pay n)
unfolding pay
all_pay n = all_below of_desk (spares_spend n)

all_wildcard : (cwd patterns out : List ℕ) → SparesAll (put_wildcard cwd patterns out)
unfolding put_wildcard
all_wildcard cwd patterns out = all_then (all_below of_desk (spares_wildcard patterns cwd)) (λ ns. all_done _)

all_plain : (set : Setting) (frames : List Frame) (name : List ℕ) (f : SimpleFunction) (args : List (List ℕ)) (out : List ℕ) → SparesAll (put_plain set frames name f args out)
all_plain set frames name plain_function.Text args out = all_own _
all_plain set frames name plain_function.Name args out = all_done _
all_plain set frames name plain_function.Wildcard args out = all_wildcard set.cwd (nth 0 args) out
all_plain set frames name plain_function.Value args out = all_done _
all_plain set frames name plain_function.Origin args out = all_done _
all_plain set frames name plain_function.Flavour args out = all_done _
all_plain set frames name plain_function.Eval args out = all_own _
all_plain set frames name plain_function.Info args out = all_own _
all_plain set frames name plain_function.Warning args out = all_own _
all_plain set frames name plain_function.Error args out = all_refuse _

all_end : (at : Option ℕ) (out : List ℕ) → SparesAll (put_end at out)
all_end None out = all_done _
all_end (Some at) out = all_refuse _

module _ (deeper : Deeper) (h : (frames : List Frame) (text out : List ℕ) → SparesAll (deeper frames text out)) where
  all_enough : (row : Row) (args : List (List ℕ)) {m : Says (List ℕ)} → SparesAll m → SparesAll (enough row args m)
  all_enough row args k = all_by (nat_lt (length args) row.least) (all_refuse _) k

  all_standing : (frames : List Frame) (name : List ℕ) (t : Stands) (out : List ℕ) → SparesAll (put_variable deeper frames name t out)
  all_standing frames name (plain t) out = all_done _
  all_standing frames name (recursive t) out = all_by (is_open frames name) (all_refuse _) (h _ t out)

  all_variable : (vars : Entries) (frames : List Frame) (name out : List ℕ) → SparesAll (variable deeper vars frames name out)
  unfolding variable
  all_variable vars frames name out = all_standing frames name (meaning_of vars frames name) out

  all_arguments : (frames : List Frame) (args so_far : List (List ℕ)) → SparesAll (arguments deeper frames args so_far)
  all_arguments frames [] so_far = all_done _
  all_arguments frames (a ∷ args) so_far = all_then (h frames a []) (λ v. all_arguments frames args (so_far ++ v ∷ []))

  all_choose : (frames : List Frame) (args : List (List ℕ)) (out : List ℕ) → SparesAll (choose deeper frames args out)
  unfolding choose
  all_choose frames args out = all_then (h frames (trimmed (nth 0 args)) []) (λ c. h frames (picked c args) out)

  all_until : (frames : List Frame) (filled : Bool) (args : List (List ℕ)) (last out : List ℕ) → SparesAll (until deeper frames filled args last out)
  all_until frames filled [] last out = all_done _
  all_until frames filled (a ∷ args) last out = all_then (h frames (trimmed a) []) (λ v. all_by (ends filled v) (all_done _) (all_until frames filled args v out))

  all_turns : (frames : List Frame) (name text : List ℕ) (words : List (List ℕ)) (gap out : List ℕ) → SparesAll (turns deeper frames name text words gap out)
  all_turns frames name text [] gap out = all_done _
  all_turns frames name text (w ∷ words) gap out = all_then (all_pay 1) (λ u. all_then (h _ text (out ++ gap)) (λ all. all_turns frames name text words (32 ∷ []) all))

  all_foreach : (frames : List Frame) (args : List (List ℕ)) (out : List ℕ) → SparesAll (foreach deeper frames args out)
  unfolding foreach
  all_foreach frames args out = all_then (h frames (nth 0 args) []) (λ name. all_then (h frames (nth 1 args) []) (λ list. all_turns frames (trimmed name) (nth 2 args) (words_of list) [] out))

  all_called : (frames : List Frame) (args : List (List ℕ)) (t : Stands) (out : List ℕ) → SparesAll (put_called deeper frames args t out)
  all_called frames args (plain t) out = all_done _
  all_called frames args (recursive t) out = h _ t out

  all_call : (vars : Entries) (frames : List Frame) (args : List (List ℕ)) (out : List ℕ) → SparesAll (call deeper vars frames args out)
  unfolding call
  all_call vars frames args out = all_called frames args (meaning_of vars frames (argument args 0)) out

  all_function : (set : Setting) (frames : List Frame) (row : Row) (f : FunctionKind) (args : List (List ℕ)) (out : List ℕ) → SparesAll (put_call deeper set frames row f args out)
  all_function set frames row Refused args out = all_refuse _
  all_function set frames row If args out = all_enough row args (all_choose frames args out)
  all_function set frames row Or args out = all_until frames true args [] out
  all_function set frames row And args out = all_until frames false args [] out
  all_function set frames row Foreach args out = all_enough row args (all_foreach frames args out)
  all_function set frames row Call args out = all_then (all_arguments frames args []) (λ values. all_call set.vars frames values out)
  all_function set frames row (Plain f) args out = all_then (all_arguments frames args []) (λ values. all_enough row values (all_plain set frames row.name f values out))

  all_name : (set : Setting) (frames : List Frame) (s : Option Substitution) (name out : List ℕ) → SparesAll (put_name deeper set frames s name out)
  all_name set frames None name out = all_variable set.vars frames name out
  all_name set frames (Some s) name out = all_then (all_variable set.vars frames s.name []) (λ value. all_own _)

  all_inner : (set : Setting) (frames : List Frame) (c : Option Called) (inner out : List ℕ) → SparesAll (put_inner deeper set frames c inner out)
  unfolding named
  all_inner set frames (Some c) inner out = all_function set frames c.row c.row.function c.args out
  all_inner set frames None inner out = all_then (h frames inner []) (λ name. all_name set frames (substitution_of name) name out)

  all_evaluate : (set : Setting) (frames : List Frame) (bracket : Option Bracket) (inner out : List ℕ) → SparesAll (evaluate deeper set frames bracket inner out)
  unfolding evaluate
  all_evaluate set frames bracket inner out = all_inner set frames (call_of bracket inner) inner out

module _ (refer : Refers) (h : (bracket : Option Bracket) (inner out : List ℕ) → SparesAll (refer bracket inner out)) where
  all_part : (text : List ℕ) (p : Part) (out : List ℕ) → SparesAll (put_part refer text p out)
  all_part text (Literal s) out = all_done _
  all_part text Dollar out = all_done _
  all_part text (Ref s) out = h _ _ out

  all_parts : (text : List ℕ) (unclosed : Option ℕ) (parts : List Part) (out : List ℕ) → SparesAll (put_parts refer text unclosed parts out)
  all_parts text unclosed [] out = all_end unclosed out
  all_parts text unclosed (p ∷ parts) out = all_then (all_part text p out) (λ all. all_parts text unclosed parts all)

  all_text : (text out : List ℕ) → SparesAll (put_text refer text out)
  all_text text out = all_parts text (parted text).unclosed (parted text).parts out

all_reference : (left : ℕ) (set : Setting) (frames : List Frame) (bracket : Option Bracket) (inner out : List ℕ) → SparesAll (reference left set frames bracket inner out)
unfolding reference
all_reference zero set frames bracket inner out = all_refuse _
all_reference (suc left) set frames bracket inner out =
    let deeper : Deeper = λ fs text so_far. put_text (reference left set fs) text so_far in
    let h : (fs : List Frame) (text so_far : List ℕ) → SparesAll (deeper fs text so_far) = λ fs text so_far. all_text (reference left set fs) (all_reference left set fs) text so_far in
    all_then (all_pay 1) (λ u. all_then (all_evaluate deeper h set frames bracket inner out) (λ all. all_then (all_pay _) (λ v. all_done _)))

pub all_expansion : (vars : Entries) (cwd : List ℕ) (place : Place) (text : List ℕ) → SparesAll (expansion vars cwd place text)
unfolding expansion
all_expansion vars cwd place text = let set : Setting = record { vars = vars; cwd = cwd; place = place } in all_text (reference levels set []) (all_reference levels set []) text []
