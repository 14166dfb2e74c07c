-- What was said stays.
use Rattle.std.proofs.Common.{◌∙◌, ℕ, zero, suc, Bool, true, false, List, [], ◌∷◌, ◌++◌, append_assoc, append-nil, Option, Some, None, Result, Ok, Err, refl, sym, ap}
use Rattle.std.specs.Prelude.{if◌then◌else◌, codes, nat_lt, take, drop, length, unwrap_or}
use Rattle.std.specs.List.{AllByRecursion}
use Rattle.em_base.specs.Blanks.{trimmed, trimmed_start}
use Rattle.em_base.specs.declared.place.Place.{Place}
use Rattle.em_wordlist.specs.Words.{words_of}
use Rattle.em_refs.specs.declared.part.Bracket.{Bracket}
use Rattle.em_refs.specs.declared.part.Part.{Part}
use Rattle.em_refs.specs.declared.part.Part.TheVariants.{Literal, Dollar, Ref}
use Rattle.em_refs.specs.Parts.{parted, bracket_before}
use Rattle.em_base.specs.Spans.{cut}
use Rattle.em_vars.specs.Entries.{Entries}
use Rattle.em_textfn.specs.Functions.{text_function}
use Rattle.em_namefn.specs.Functions.{name_function}
use Rattle.em_view.specs.Actions.{Oracle, Workspace}
use Rattle.em_view.specs.Steps.{and_then, done, refuse, own, with_state}
use Rattle.em_expand.specs.declared.no.ExpandNo.{ExpandNo}
use Rattle.em_expand.specs.declared.no.ExpandNo.TheVariants as no
use Rattle.em_expand.specs.declared.spoken.Spoken.{Spoken}
use Rattle.em_expand.specs.Desks.{Says, pay, of_desk}
use Rattle.em_expand.specs.Scopes.{Frame, each, called, within, nth, is_open, argument}
use Rattle.em_expand.specs.Table.{Row, table, function_of}
use Rattle.em_expand.specs.Calls.{word_length, called_by, split_args, Substitution, substitution_of}
use Rattle.em_expand.specs.Values.{Stands, plain, recursive, meaning_of, text_of, origin_of, flavour_of, warned}
use Rattle.em_expand.specs.Expansion.{Setting, Deeper, Refers, gives, put_variable, variable, text_value, put_wildcard, say, keep, arguments, choose, ends, until, turns, foreach, put_called, call, put_call, substituted, put_name, named, put_inner, evaluate, put_part, put_end, put_parts, put_text, reference, expansion, levels}
use Rattle.em_reading_laws.specs.Steps.{Begins, state_of}
use Rattle.em_reading_laws.proofs.Stepping.{Keeps, keeps_then, keeps_done, keeps_refuse, keeps_own, keeps_below}
use Rattle.em_reading_laws.proofs.Rows.{Where, known}

-- ---- lists that begin with others

pub same : {A : Type 0} (xs : List A) → Begins xs xs
same xs = ([], sym (append-nil xs))

pub further : {A : Type 0} (xs ys zs : List A) → Begins xs ys → Begins ys zs → Begins xs zs
further xs ys zs p q = (p.0 ++ q.0, q.1 ∙ ap (λ l. l ++ q.0) p.1 ∙ append_assoc xs p.0 q.0)

pub more : {A : Type 0} (xs ys : List A) → Begins xs (xs ++ ys)
more xs ys = (ys, refl)

-- ---- an expansion

abbrev Goes : Spoken → Spoken → Type 0
Goes s t = Begins s.said t.said × Begins s.evals t.evals

goes_same : (s : Spoken) → Goes s s
goes_same s = (same s.said, same s.evals)

goes_on : (s t u : Spoken) → Goes s t → Goes t u → Goes s u
goes_on s t u p q = (further s.said t.said u.said p.0 q.0, further s.evals t.evals u.evals p.1 q.1)

abbrev Grows : {A : Type 0} → Says A → Type 0
Grows m = Keeps Goes m

next : {A B : Type 0} {m : Says A} (k : A → Says B) → Grows m → ((a : A) → Grows (k a)) → Grows (and_then m k)
next k first rest = keeps_then goes_on k first rest

gave : {A : Type 0} (a : A) → Grows {A = A} (done a)
gave a = keeps_done goes_same a

gave_no : {A : Type 0} (e : ExpandNo) → Grows {A = A} (refuse e)
gave_no e = keeps_refuse goes_same e

paid : (n : ℕ) → Grows (pay n)
unfolding pay
paid n = keeps_below goes_same of_desk _

either : {A : Type 0} (b : Bool) (m n : Says A) → Grows m → Grows n → Grows (if b then m else n)
either true m n h k = h
either false m n h k = k

given : (r : Result (List ℕ) ExpandNo) → Grows (gives r)
given (Ok t) = keeps_own (with_state (Ok t)) (λ s. goes_same s)
given (Err e) = keeps_own (with_state (Err e)) (λ s. goes_same s)

wild : (cwd patterns out : List ℕ) → Grows (put_wildcard cwd patterns out)
unfolding put_wildcard
wild cwd patterns out = next _ (keeps_below goes_same of_desk _) (λ names. gave (out ++ names))

said : (t out : List ℕ) → Grows (own (say t out))
said t out = keeps_own (say t out) (λ s. (more s.said t, same s.evals))

kept : (t out : List ℕ) → Grows (own (keep t out))
kept t out = keeps_own (keep t out) (λ s. (same s.said, more s.evals (t ∷ [])))

abbrev few : List ℕ → ℕ → List (List ℕ) → Says (List ℕ) → Says (List ℕ)
few name least args m = if nat_lt (length args) least then refuse (no.BadArgument name) else m

enough_args : (name : List ℕ) (least : ℕ) (args : List (List ℕ)) (m : Says (List ℕ)) → Grows m → Grows (few name least args m)
enough_args name least args m h = either (nat_lt (length args) least) (refuse (no.BadArgument name)) m (gave_no (no.BadArgument name)) h

module _ (deeper : Deeper) (grows : (frames : List Frame) (text out : List ℕ) → Grows (deeper frames text out)) where
  of_variable : (frames : List Frame) (name : List ℕ) (m : Stands) (out : List ℕ) → Grows (put_variable deeper frames name m out)
  of_variable frames name (plain t) out = gave _
  of_variable frames name (recursive t) out = either (is_open frames name) _ _ (gave_no _) (grows (within name ∷ frames) t out)

  variable_grows : (vars : Entries) (frames : List Frame) (name out : List ℕ) → Grows (variable deeper vars frames name out)
  unfolding variable
  variable_grows vars frames name out = of_variable frames name (meaning_of vars frames name) out

  arguments_grow : (frames : List Frame) (args so_far : List (List ℕ)) → Grows (arguments deeper frames args so_far)
  arguments_grow frames [] so_far = gave so_far
  arguments_grow frames (a ∷ args) so_far = next _ (grows frames a []) (λ v. arguments_grow frames args (so_far ++ v ∷ []))

  choose_grows : (frames : List Frame) (args : List (List ℕ)) (out : List ℕ) → Grows (choose deeper frames args out)
  unfolding choose
  choose_grows frames args out = next _ (grows frames _ []) (λ c. grows frames _ out)

  until_grows : (frames : List Frame) (filled : Bool) (args : List (List ℕ)) (last out : List ℕ) → Grows (until deeper frames filled args last out)
  until_grows frames filled [] last out = gave _
  until_grows frames filled (a ∷ args) last out = next _ (grows frames (trimmed a) []) (λ v. either (ends filled v) _ _ (gave _) (until_grows frames filled args v out))

  turns_grow : (frames : List Frame) (name text : List ℕ) (words : List (List ℕ)) (gap out : List ℕ) → Grows (turns deeper frames name text words gap out)
  turns_grow frames name text [] gap out = gave out
  turns_grow frames name text (w ∷ words) gap out = next _ (paid 1) (λ u. next _ (grows (each name w ∷ frames) text (out ++ gap)) (λ all. turns_grow frames name text words (32 ∷ []) all))

  foreach_grows : (frames : List Frame) (args : List (List ℕ)) (out : List ℕ) → Grows (foreach deeper frames args out)
  unfolding foreach
  foreach_grows frames args out = next _ (grows frames _ []) (λ name. next _ (grows frames _ []) (λ list. turns_grow frames (trimmed name) (nth 2 args) (words_of list) [] out))

  of_called : (frames : List Frame) (args : List (List ℕ)) (m : Stands) (out : List ℕ) → Grows (put_called deeper frames args m out)
  of_called frames args (plain t) out = gave _
  of_called frames args (recursive t) out = grows (called args ∷ frames) t out

  call_grows : (vars : Entries) (frames : List Frame) (args : List (List ℕ)) (out : List ℕ) → Grows (call deeper vars frames args out)
  unfolding call
  call_grows vars frames args out = of_called frames args (meaning_of vars frames (argument args 0)) out

  module _ (set : Setting) (frames : List Frame) where
    -- a function whose arguments are expanded before
    called_with : (name : List ℕ) (least : ℕ) (f : List (List ℕ) → List ℕ → Says (List ℕ)) → ((values : List (List ℕ)) (out : List ℕ) → Grows (f values out)) → (args : List (List ℕ)) (out : List ℕ)
        → Grows (and_then (arguments deeper frames args []) (λ values. few name least values (f values out)))
    called_with name least f h args out = next _ (arguments_grow frames args []) (λ values. enough_args name least values (f values out) (h values out))

    gives_text : (name : List ℕ) (least : ℕ) (f : List (List ℕ) → List ℕ) (args : List (List ℕ)) (out : List ℕ) → Grows (and_then (arguments deeper frames args []) (λ values. few name least values (done (out ++ f values))))
    gives_text name least f args out = called_with name least (λ values out. done (out ++ f values)) (λ values out. gave (out ++ f values)) args out

    texts : (name : List ℕ) (least : ℕ) (args : List (List ℕ)) (out : List ℕ) → Grows (and_then (arguments deeper frames args []) (λ values. few name least values (gives (text_value name (text_function name values) out))))
    texts name least args out = called_with name least (λ values out. gives (text_value name (text_function name values) out)) (λ values out. given _) args out

    names : (name : List ℕ) (least : ℕ) (args : List (List ℕ)) (out : List ℕ) → Grows (and_then (arguments deeper frames args []) (λ values. few name least values (done (out ++ unwrap_or (name_function name values) []))))
    names name least args out = gives_text name least (λ values. unwrap_or (name_function name values) []) args out

    abbrev RowGrows : Row → Type 0
    RowGrows row = (args : List (List ℕ)) (out : List ℕ) → Grows (put_call deeper set frames row row.function args out)

    rows_grow : AllByRecursion RowGrows table
    rows_grow = (
      texts (codes "subst") 3,
      (
        texts (codes "patsubst") 3,
        (
          texts (codes "strip") 1,
          (
            texts (codes "words") 1,
            (
              texts (codes "firstword") 1,
              (
                texts (codes "lastword") 1,
                (
                  texts (codes "findstring") 2,
                  (
                    texts (codes "filter") 2,
                    (
                      texts (codes "filter-out") 2,
                      (
                        texts (codes "sort") 1,
                        (
                          texts (codes "word") 2,
                          (
                            texts (codes "wordlist") 3,
                            (
                              names (codes "dir") 1,
                              (
                                names (codes "notdir") 1,
                                (
                                  names (codes "suffix") 1,
                                  (
                                    names (codes "basename") 1,
                                    (
                                      names (codes "addsuffix") 2,
                                      (
                                        names (codes "addprefix") 2,
                                        (
                                          names (codes "join") 2,
                                          (
                                            called_with (codes "wildcard") 1 (λ values out. put_wildcard set.cwd (nth 0 values) out) (λ values out. wild set.cwd (nth 0 values) out),
                                            (
                                              λ args out. enough_args (codes "if") 2 args _ (choose_grows frames args out),
                                              (
                                                λ args out. until_grows frames true args [] out,
                                                (
                                                  λ args out. until_grows frames false args [] out,
                                                  (
                                                    λ args out. enough_args (codes "foreach") 3 args _ (foreach_grows frames args out),
                                                    (
                                                      λ args out. next _ (arguments_grow frames args []) (λ values. call_grows set.vars frames values out),
                                                      (
                                                        gives_text (codes "value") 1 (λ values. text_of set.vars frames (nth 0 values)),
                                                        (
                                                          gives_text (codes "origin") 1 (λ values. origin_of set.vars frames (nth 0 values)),
                                                          (
                                                            gives_text (codes "flavor") 1 (λ values. flavour_of set.vars frames (nth 0 values)),
                                                            (
                                                              called_with (codes "eval") 1 (λ values out. own (keep (nth 0 values) out)) (λ values out. kept (nth 0 values) out),
                                                              (
                                                                called_with (codes "info") 1 (λ values out. own (say (nth 0 values ++ 10 ∷ []) out)) (λ values out. said (nth 0 values ++ 10 ∷ []) out),
                                                                (
                                                                  called_with (codes "warning") 1 (λ values out. own (say (warned set.place (nth 0 values)) out)) (λ values out. said (warned set.place (nth 0 values)) out),
                                                                  (
                                                                    called_with (codes "error") 1 (λ values out. refuse (no.UserError (nth 0 values))) (λ values out. gave_no (no.UserError (nth 0 values))),
                                                                    (
                                                                      λ args out. gave_no (no.Refused (codes "shell")),
                                                                      (
                                                                        λ args out. gave_no (no.Refused (codes "file")),
                                                                        (
                                                                          λ args out. gave_no (no.Refused (codes "guile")),
                                                                          (
                                                                            λ args out. gave_no (no.Refused (codes "realpath")),
                                                                            (
                                                                              λ args out. gave_no (no.Refused (codes "abspath")),
                                                                              (
                                                                                λ args out. gave_no (no.Refused (codes "let")),
                                                                                (
                                                                                  λ args out. gave_no (no.Refused (codes "intcmp")),
                                                                                  tt,
                                                                                ),
                                                                              ),
                                                                            ),
                                                                          ),
                                                                        ),
                                                                      ),
                                                                    ),
                                                                  ),
                                                                ),
                                                              ),
                                                            ),
                                                          ),
                                                        ),
                                                      ),
                                                    ),
                                                  ),
                                                ),
                                              ),
                                            ),
                                          ),
                                        ),
                                      ),
                                    ),
                                  ),
                                ),
                              ),
                            ),
                          ),
                        ),
                      ),
                    ),
                  ),
                ),
              ),
            ),
          ),
        ),
      ),
    )

  name_grows : (set : Setting) (frames : List Frame) (s : Option Substitution) (name out : List ℕ) → Grows (put_name deeper set frames s name out)
  name_grows set frames None name out = variable_grows set.vars frames name out
  name_grows set frames (Some s) name out = next _ (variable_grows set.vars frames s.name []) (λ value. given (substituted s value out))

  plain_grows : (set : Setting) (frames : List Frame) (inner out : List ℕ) → Grows (named deeper set frames inner out)
  unfolding named
  plain_grows set frames inner out = next _ (grows frames inner []) (λ name. name_grows set frames (substitution_of name) name out)

  inner_grows : (set : Setting) (frames : List Frame) (bracket : Bracket) (row : Option Row) (rest inner out : List ℕ) → Where (RowGrows set frames) row → Grows (put_inner deeper set frames (called_by bracket row rest) inner out)
  inner_grows set frames bracket None [] inner out h = plain_grows set frames inner out
  inner_grows set frames bracket None (b ∷ rest) inner out h = plain_grows set frames inner out
  inner_grows set frames bracket (Some row) [] inner out h = plain_grows set frames inner out
  inner_grows set frames bracket (Some row) (b ∷ rest) inner out h = h (split_args bracket row.greatest (trimmed_start rest)) out

  evaluate_grows : (set : Setting) (frames : List Frame) (bracket : Option Bracket) (inner out : List ℕ) → Grows (evaluate deeper set frames bracket inner out)
  unfolding evaluate
  evaluate_grows set frames None inner out = plain_grows set frames inner out
  evaluate_grows set frames (Some bracket) inner out =
      let text = trimmed_start inner in
      let n = word_length text in
      inner_grows set frames bracket (function_of (take n text)) (drop n text) inner out (known (RowGrows set frames) (rows_grow set frames) (take n text))

module _ (refer : Refers) (grows : (bracket : Option Bracket) (inner out : List ℕ) → Grows (refer bracket inner out)) where
  part_grows : (text : List ℕ) (p : Part) (out : List ℕ) → Grows (put_part refer text p out)
  part_grows text (Literal s) out = gave _
  part_grows text Dollar out = gave _
  part_grows text (Ref s) out = grows (bracket_before text s) (cut text s) out

  end_grows : (unclosed : Option ℕ) (out : List ℕ) → Grows (put_end unclosed out)
  end_grows None out = gave out
  end_grows (Some at) out = gave_no _

  parts_grow : (text : List ℕ) (unclosed : Option ℕ) (parts : List Part) (out : List ℕ) → Grows (put_parts refer text unclosed parts out)
  parts_grow text unclosed [] out = end_grows unclosed out
  parts_grow text unclosed (p ∷ parts) out = next _ (part_grows text p out) (λ all. parts_grow text unclosed parts all)

refer_grows : (left : ℕ) (set : Setting) (frames : List Frame) (bracket : Option Bracket) (inner out : List ℕ) → Grows (reference left set frames bracket inner out)
unfolding reference
refer_grows zero set frames bracket inner out = gave_no _
refer_grows (suc left) set frames bracket inner out =
    let deeper : Deeper = λ fs text so_far. put_text (reference left set fs) text so_far in
    let is : (fs : List Frame) (text so_far : List ℕ) → Grows (deeper fs text so_far) = λ fs text so_far. parts_grow (reference left set fs) (refer_grows left set fs) text (parted text).unclosed (parted text).parts so_far in
    next _ (paid 1) (λ u. next _ (evaluate_grows deeper is set frames bracket inner out) (λ all. next _ (paid _) (λ v. gave all)))

pub expansion_grows : (vars : Entries) (cwd : List ℕ) (place : Place) (text : List ℕ) → Grows (expansion vars cwd place text)
unfolding expansion
expansion_grows vars cwd place text = let set : Setting = record { vars = vars; cwd = cwd; place = place } in parts_grow (reference levels set []) (refer_grows levels set []) text (parted text).unclosed (parted text).parts []

pub said_law : (vars : Entries) (cwd : List ℕ) (place : Place) (text : List ℕ) (s : Spoken) (o : Oracle) (w : Workspace) → Begins s.said (state_of (expansion vars cwd place text s o w).0).said
said_law vars cwd place text s o w = ((expansion_grows vars cwd place text).kept s o w).0

pub evals_law : (vars : Entries) (cwd : List ℕ) (place : Place) (text : List ℕ) (s : Spoken) (o : Oracle) (w : Workspace) → Begins s.evals (state_of (expansion vars cwd place text s o w).0).evals
evals_law vars cwd place text s o w = ((expansion_grows vars cwd place text).kept s o w).1
