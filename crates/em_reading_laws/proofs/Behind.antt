-- A text is expanded behind what there is as it is from nothing.
--     Adds F       what F puts behind a text that has another one in front is put behind that one, too
use Rattle.std.proofs.Common.{◌≡◌, ◌∙◌, ℕ, zero, suc, ◌-◌, Bool, true, false, List, [], ◌∷◌, ◌++◌, length, length-append, append_assoc, append-nil, Option, Some, None, Result, Ok, Err, unwrap_or, arith, refl, sym, ap}
use Rattle.std.specs.Prelude.{if◌then◌else◌, codes, nat_lt, take, drop}
use Rattle.std.specs.List.{AllByRecursion}
use Rattle.em_base.specs.Blanks.{trimmed, trimmed_start}
use Rattle.em_base.specs.Spans.{cut}
use Rattle.em_refs.specs.declared.part.Bracket.{Bracket}
use Rattle.em_refs.specs.declared.part.Part.{Part}
use Rattle.em_refs.specs.declared.part.Part.TheVariants.{Literal, Dollar, Ref}
use Rattle.em_refs.specs.Parts.{parted, bracket_before}
use Rattle.em_vars.specs.Entries.{Entries}
use Rattle.em_wordlist.specs.Words.{words_of}
use Rattle.em_textfn.specs.declared.no.TextfnNo.{TextfnNo}
use Rattle.em_textfn.specs.Functions.{text_function}
use Rattle.em_namefn.specs.Functions.{name_function}
use Rattle.em_view.specs.Actions.{◌>>=◌}
use Rattle.em_view.specs.Rows.{blocks}
use Rattle.em_view.specs.Steps.{and_then, done, refuse, own}
use Rattle.em_expand.specs.declared.no.ExpandNo.{ExpandNo}
use Rattle.em_expand.specs.declared.no.ExpandNo.TheVariants as no
use Rattle.em_expand.specs.Desks.{Says, pay}
use Rattle.em_expand.specs.Scopes.{Frame, each, called, within, nth, is_open, argument}
use Rattle.em_expand.specs.Table.{Row, table, function_of}
use Rattle.em_expand.specs.Calls.{word_length, called_by, split_args, Substitution, substitution_of, with_percent}
use Rattle.em_expand.specs.Values.{Stands, plain, recursive, meaning_of, text_of, origin_of, flavour_of, warned}
use Rattle.em_expand.specs.Expansion.{Setting, Deeper, Refers, gives, put_variable, variable, text_value, put_wildcard, say, keep, arguments, picked, choose, ends, until, turns, foreach, put_called, call, put_call, substituted, put_name, named, put_inner, evaluate, put_part, put_end, put_parts, put_text, reference, expand_text}
use Rattle.em_reading_laws.specs.Steps.{in_front}
use Rattle.em_reading_laws.proofs.Stepping.{done_then, regrouped, same_then}
use Rattle.em_reading_laws.proofs.Rows.{Where, known}

-- ---- steps

abbrev Texts : Type 0
Texts = Says (List ℕ)

abbrev IsBehind : List ℕ → Texts → Texts → Type 0
IsBehind front m n = m ≡ in_front front n

gave : (front out t : List ℕ) → IsBehind front (done ((front ++ out) ++ t)) (done (out ++ t))
gave front out t = ap (λ (x : List ℕ). let m : Texts = done x in m) (append_assoc front out t) ∙ sym (done_then (out ++ t) (λ (x : List ℕ). let m : Texts = done (front ++ x) in m))

gave_none : (front out : List ℕ) → IsBehind front (done (front ++ out)) (done out)
gave_none front out = sym (done_then out (λ (x : List ℕ). let m : Texts = done (front ++ x) in m))

gave_no : (front : List ℕ) (e : ExpandNo) → IsBehind front (refuse e) (refuse e)
unfolding refuse and_then ◌>>=◌
gave_no front e = refl

-- the same steps before
after_same : {A : Type 0} (front : List ℕ) (m : Says A) (k l : A → Texts) → ((a : A) → IsBehind front (k a) (l a)) → IsBehind front (and_then m k) (and_then m l)
after_same front m k l h = same_then m k (λ a. in_front front (l a)) h ∙ sym (regrouped m l (λ (x : List ℕ). let n : Texts = done (front ++ x) in n))

-- steps whose text goes on
after_text : (front : List ℕ) (m n : Texts) (k l : List ℕ → Texts) → IsBehind front m n → ((x : List ℕ) → IsBehind front (k (front ++ x)) (l x)) → IsBehind front (and_then m k) (and_then n l)
after_text front m n k l e h =
    let put = λ (x : List ℕ). let n : Texts = done (front ++ x) in n in
    ap (λ (m : Texts). and_then m k) e ∙ regrouped n put k ∙ same_then n (λ x. and_then (put x) k) (λ x. in_front front (l x)) (λ x. done_then (front ++ x) k ∙ h x) ∙ sym (regrouped n l put)

either : (front : List ℕ) (b : Bool) (m n p q : Texts) → IsBehind front m p → IsBehind front n q → IsBehind front (if b then m else n) (if b then p else q)
either front true m n p q h k = h
either front false m n p q h k = k

-- ---- functions whose arguments were expanded before

valued : (front : List ℕ) (name : List ℕ) (r : Result (Option (List ℕ)) TextfnNo) (out : List ℕ) → IsBehind front (gives (text_value name r (front ++ out))) (gives (text_value name r out))
unfolding own done refuse and_then ◌>>=◌
valued front name (Ok t) out = gave front out (unwrap_or t [])
valued front name (Err e) out = refl

wild : (front : List ℕ) (cwd patterns out : List ℕ) → IsBehind front (put_wildcard cwd patterns (front ++ out)) (put_wildcard cwd patterns out)
unfolding put_wildcard
wild front cwd patterns out = after_same front _ (λ names. done ((front ++ out) ++ names)) (λ names. done (out ++ names)) (λ names. gave front out names)

said : (front t out : List ℕ) → IsBehind front (own (say t (front ++ out))) (own (say t out))
unfolding own and_then done ◌>>=◌
said front t out = refl

kept : (front t out : List ℕ) → IsBehind front (own (keep t (front ++ out))) (own (keep t out))
unfolding own and_then done ◌>>=◌
kept front t out = refl

abbrev few : List ℕ → ℕ → List (List ℕ) → Texts → Texts
few name least args m = if nat_lt (length args) least then refuse (no.BadArgument name) else m

enough_args : (front name : List ℕ) (least : ℕ) (args : List (List ℕ)) (m n : Texts) → IsBehind front m n → IsBehind front (few name least args m) (few name least args n)
enough_args front name least args m n h = either front (nat_lt (length args) least) (refuse (no.BadArgument name)) m (refuse (no.BadArgument name)) n (gave_no front (no.BadArgument name)) h

-- ---- where a text one level deeper is put behind what there is

abbrev Adds : (List ℕ → Texts) → Type 0
Adds f = (front out : List ℕ) → IsBehind front (f (front ++ out)) (f out)

module _ (deeper : Deeper) (adds : (frames : List Frame) (text : List ℕ) → Adds (deeper frames text)) where
  of_variable : (frames : List Frame) (name : List ℕ) (m : Stands) → Adds (put_variable deeper frames name m)
  of_variable frames name (plain t) front out = gave front out t
  of_variable frames name (recursive t) front out = either front (is_open frames name) (refuse (no.SelfReference name)) _ (refuse (no.SelfReference name)) _ (gave_no front (no.SelfReference name)) (adds (within name ∷ frames) t front out)

  variable_adds : (vars : Entries) (frames : List Frame) (name : List ℕ) → Adds (variable deeper vars frames name)
  unfolding variable
  variable_adds vars frames name front out = of_variable frames name (meaning_of vars frames name) front out

  choose_adds : (frames : List Frame) (args : List (List ℕ)) → Adds (choose deeper frames args)
  unfolding choose
  choose_adds frames args front out = after_same front _ (λ c. deeper frames (picked c args) (front ++ out)) (λ c. deeper frames (picked c args) out) (λ c. adds frames (picked c args) front out)

  until_adds : (frames : List Frame) (filled : Bool) (args : List (List ℕ)) (last : List ℕ) → Adds (until deeper frames filled args last)
  until_adds frames filled [] last front out = gave front out last
  until_adds frames filled (a ∷ args) last front out = after_same front (deeper frames (trimmed a) [])
      (λ v. if ends filled v then done ((front ++ out) ++ v) else until deeper frames filled args v (front ++ out))
      (λ v. if ends filled v then done (out ++ v) else until deeper frames filled args v out)
      (λ v. either front (ends filled v) _ _ _ _ (gave front out v) (until_adds frames filled args v front out))

  turns_add : (frames : List Frame) (name text : List ℕ) (words : List (List ℕ)) (gap : List ℕ) → Adds (turns deeper frames name text words gap)
  turns_add frames name text [] gap front out = gave_none front out
  turns_add frames name text (w ∷ words) gap front out =
      let more = λ (all : List ℕ). turns deeper frames name text words (32 ∷ []) all in
      let inner = each name w ∷ frames in
      after_same front (pay 1) (λ u. and_then (deeper inner text ((front ++ out) ++ gap)) more) (λ u. and_then (deeper inner text (out ++ gap)) more)
      (λ u. after_text front _ _ more more
      (ap (deeper inner text) (append_assoc front out gap) ∙ adds inner text front (out ++ gap))
      (λ all. turns_add frames name text words (32 ∷ []) front all))

  foreach_adds : (frames : List Frame) (args : List (List ℕ)) → Adds (foreach deeper frames args)
  unfolding foreach
  foreach_adds frames args front out = after_same front _ _ _ (λ name. after_same front _ _ _ (λ list. turns_add frames (trimmed name) (nth 2 args) (words_of list) [] front out))

  of_called : (frames : List Frame) (args : List (List ℕ)) (m : Stands) → Adds (put_called deeper frames args m)
  of_called frames args (plain t) front out = gave front out t
  of_called frames args (recursive t) front out = adds (called args ∷ frames) t front out

  call_adds : (vars : Entries) (frames : List Frame) (args : List (List ℕ)) → Adds (call deeper vars frames args)
  unfolding call
  call_adds vars frames args front out = of_called frames args (meaning_of vars frames (argument args 0)) front out

  -- a function whose arguments are expanded before
  module _ (set : Setting) (frames : List Frame) where
    called_with : (name : List ℕ) (least : ℕ) (f : List (List ℕ) → List ℕ → Texts) → ((values : List (List ℕ)) → Adds (f values)) → (args : List (List ℕ)) → Adds (λ out. and_then (arguments deeper frames args []) (λ values. few name least values (f values out)))
    called_with name least f h args front out = after_same front (arguments deeper frames args []) (λ values. few name least values (f values (front ++ out))) (λ values. few name least values (f values out))
        (λ values. enough_args front name least values (f values (front ++ out)) (f values out) (h values front out))

    gives_text : (name : List ℕ) (least : ℕ) (f : List (List ℕ) → List ℕ) (args : List (List ℕ)) → Adds (λ out. and_then (arguments deeper frames args []) (λ values. few name least values (done (out ++ f values))))
    gives_text name least f args = called_with name least (λ values out. done (out ++ f values)) (λ values front out. gave front out (f values)) args

    texts : (name : List ℕ) (least : ℕ) (args : List (List ℕ)) → Adds (λ out. and_then (arguments deeper frames args []) (λ values. few name least values (gives (text_value name (text_function name values) out))))
    texts name least args = called_with name least (λ values out. gives (text_value name (text_function name values) out)) (λ values front out. valued front name (text_function name values) out) args

    names : (name : List ℕ) (least : ℕ) (args : List (List ℕ)) → Adds (λ out. and_then (arguments deeper frames args []) (λ values. few name least values (done (out ++ unwrap_or (name_function name values) []))))
    names name least args = gives_text name least (λ values. unwrap_or (name_function name values) []) args

    abbrev RowAdds : Row → Type 0
    RowAdds row = (args : List (List ℕ)) → Adds (put_call deeper set frames row row.function args)

    rows_add : AllByRecursion RowAdds table
    rows_add = (
      texts (codes "subst") 3,
      (
        texts (codes "patsubst") 3,
        (
          texts (codes "strip") 1,
          (
            texts (codes "words") 1,
            (
              texts (codes "firstword") 1,
              (
                texts (codes "lastword") 1,
                (
                  texts (codes "findstring") 2,
                  (
                    texts (codes "filter") 2,
                    (
                      texts (codes "filter-out") 2,
                      (
                        texts (codes "sort") 1,
                        (
                          texts (codes "word") 2,
                          (
                            texts (codes "wordlist") 3,
                            (
                              names (codes "dir") 1,
                              (
                                names (codes "notdir") 1,
                                (
                                  names (codes "suffix") 1,
                                  (
                                    names (codes "basename") 1,
                                    (
                                      names (codes "addsuffix") 2,
                                      (
                                        names (codes "addprefix") 2,
                                        (
                                          names (codes "join") 2,
                                          (
                                            called_with (codes "wildcard") 1 (λ values out. put_wildcard set.cwd (nth 0 values) out) (λ values front out. wild front set.cwd (nth 0 values) out),
                                            (
                                              λ args front out. enough_args front (codes "if") 2 args _ _ (choose_adds frames args front out),
                                              (
                                                λ args front out. until_adds frames true args [] front out,
                                                (
                                                  λ args front out. until_adds frames false args [] front out,
                                                  (
                                                    λ args front out. enough_args front (codes "foreach") 3 args _ _ (foreach_adds frames args front out),
                                                    (
                                                      λ args front out. after_same front (arguments deeper frames args []) (λ values. call deeper set.vars frames values (front ++ out)) (λ values. call deeper set.vars frames values out) (λ values. call_adds set.vars frames values front out),
                                                      (
                                                        gives_text (codes "value") 1 (λ values. text_of set.vars frames (nth 0 values)),
                                                        (
                                                          gives_text (codes "origin") 1 (λ values. origin_of set.vars frames (nth 0 values)),
                                                          (
                                                            gives_text (codes "flavor") 1 (λ values. flavour_of set.vars frames (nth 0 values)),
                                                            (
                                                              called_with (codes "eval") 1 (λ values out. own (keep (nth 0 values) out)) (λ values front out. kept front (nth 0 values) out),
                                                              (
                                                                called_with (codes "info") 1 (λ values out. own (say (nth 0 values ++ 10 ∷ []) out)) (λ values front out. said front (nth 0 values ++ 10 ∷ []) out),
                                                                (
                                                                  called_with (codes "warning") 1 (λ values out. own (say (warned set.place (nth 0 values)) out)) (λ values front out. said front (warned set.place (nth 0 values)) out),
                                                                  (
                                                                    called_with (codes "error") 1 (λ values out. refuse (no.UserError (nth 0 values))) (λ values front out. gave_no front (no.UserError (nth 0 values))),
                                                                    (
                                                                      λ args front out. gave_no front (no.Refused (codes "shell")),
                                                                      (
                                                                        λ args front out. gave_no front (no.Refused (codes "file")),
                                                                        (
                                                                          λ args front out. gave_no front (no.Refused (codes "guile")),
                                                                          (
                                                                            λ args front out. gave_no front (no.Refused (codes "realpath")),
                                                                            (
                                                                              λ args front out. gave_no front (no.Refused (codes "abspath")),
                                                                              (
                                                                                λ args front out. gave_no front (no.Refused (codes "let")),
                                                                                (
                                                                                  λ args front out. gave_no front (no.Refused (codes "intcmp")),
                                                                                  tt,
                                                                                ),
                                                                              ),
                                                                            ),
                                                                          ),
                                                                        ),
                                                                      ),
                                                                    ),
                                                                  ),
                                                                ),
                                                              ),
                                                            ),
                                                          ),
                                                        ),
                                                      ),
                                                    ),
                                                  ),
                                                ),
                                              ),
                                            ),
                                          ),
                                        ),
                                      ),
                                    ),
                                  ),
                                ),
                              ),
                            ),
                          ),
                        ),
                      ),
                    ),
                  ),
                ),
              ),
            ),
          ),
        ),
      ),
    )

  name_adds : (set : Setting) (frames : List Frame) (s : Option Substitution) (name : List ℕ) → Adds (put_name deeper set frames s name)
  name_adds set frames None name front out = variable_adds set.vars frames name front out
  name_adds set frames (Some s) name front out = after_same front (variable deeper set.vars frames s.name []) (λ value. gives (substituted s value (front ++ out))) (λ value. gives (substituted s value out))
      (λ value. valued front (codes "patsubst") (text_function (codes "patsubst") (with_percent s.from s.from ∷ with_percent s.from s.to ∷ value ∷ [])) out)

  plain_adds : (set : Setting) (frames : List Frame) (inner : List ℕ) → Adds (named deeper set frames inner)
  unfolding named
  plain_adds set frames inner front out = after_same front (deeper frames inner []) (λ name. put_name deeper set frames (substitution_of name) name (front ++ out)) (λ name. put_name deeper set frames (substitution_of name) name out)
      (λ name. name_adds set frames (substitution_of name) name front out)

  inner_adds : (set : Setting) (frames : List Frame) (bracket : Bracket) (row : Option Row) (rest inner : List ℕ) → Where (RowAdds set frames) row → Adds (put_inner deeper set frames (called_by bracket row rest) inner)
  inner_adds set frames bracket None [] inner h = plain_adds set frames inner
  inner_adds set frames bracket None (b ∷ rest) inner h = plain_adds set frames inner
  inner_adds set frames bracket (Some row) [] inner h = plain_adds set frames inner
  inner_adds set frames bracket (Some row) (b ∷ rest) inner h = h (split_args bracket row.greatest (trimmed_start rest))

  evaluate_adds : (set : Setting) (frames : List Frame) (bracket : Option Bracket) (inner : List ℕ) → Adds (evaluate deeper set frames bracket inner)
  unfolding evaluate
  evaluate_adds set frames None inner = plain_adds set frames inner
  evaluate_adds set frames (Some bracket) inner =
      let text = trimmed_start inner in
      let n = word_length text in
      inner_adds set frames bracket (function_of (take n text)) (drop n text) inner (known (RowAdds set frames) (rows_add set frames) (take n text))

-- ---- texts

module _ (refer : Refers) (adds : (bracket : Option Bracket) (inner : List ℕ) → Adds (refer bracket inner)) where
  part_adds : (text : List ℕ) (p : Part) → Adds (put_part refer text p)
  part_adds text (Literal s) front out = gave front out (cut text s)
  part_adds text Dollar front out = gave front out (36 ∷ [])
  part_adds text (Ref s) front out = adds (bracket_before text s) (cut text s) front out

  end_adds : (unclosed : Option ℕ) → Adds (put_end unclosed)
  end_adds None front out = gave_none front out
  end_adds (Some at) front out = gave_no front no.Unclosed

  parts_add : (text : List ℕ) (unclosed : Option ℕ) (parts : List Part) → Adds (put_parts refer text unclosed parts)
  parts_add text unclosed [] front out = end_adds unclosed front out
  parts_add text unclosed (p ∷ parts) front out =
      let more = λ (all : List ℕ). put_parts refer text unclosed parts all in
      after_text front (put_part refer text p (front ++ out)) (put_part refer text p out) more more (part_adds text p front out) (λ all. parts_add text unclosed parts front all)

  text_adds : (text : List ℕ) → Adds (put_text refer text)
  text_adds text front out = parts_add text (parted text).unclosed (parted text).parts front out

abbrev costs : List ℕ → List ℕ → Texts
costs out all = and_then (pay (blocks (length all - length out))) (λ u. done all)

costs_same : (front out x : List ℕ) → IsBehind front (costs (front ++ out) (front ++ x)) (costs out x)
costs_same front out x =
    let e : length (front ++ x) - length (front ++ out) ≡ length x - length out = omega (arith, length-append front x, length-append front out) in
    ap (λ n. let m : Texts = and_then (pay (blocks n)) (λ u. done (front ++ x)) in m) e
    ∙ after_same front (pay (blocks (length x - length out))) (λ u. done (front ++ x)) (λ u. done x) (λ u. gave_none front x)

refer_adds : (left : ℕ) (set : Setting) (frames : List Frame) (bracket : Option Bracket) (inner : List ℕ) → Adds (reference left set frames bracket inner)
unfolding reference
refer_adds zero set frames bracket inner front out = gave_no front no.TooDeep
refer_adds (suc left) set frames bracket inner front out =
    let deeper : Deeper = λ fs text so_far. put_text (reference left set fs) text so_far in
    let is : (fs : List Frame) (text : List ℕ) → Adds (deeper fs text) = λ fs text. text_adds (reference left set fs) (refer_adds left set fs) text in
    after_same front (pay 1) (λ u. and_then (evaluate deeper set frames bracket inner (front ++ out)) (costs (front ++ out))) (λ u. and_then (evaluate deeper set frames bracket inner out) (costs out))
    (λ u. after_text front _ _ (costs (front ++ out)) (costs out) (evaluate_adds deeper is set frames bracket inner front out) (λ x. costs_same front out x))

pub behind_text : (left : ℕ) (set : Setting) (frames : List Frame) (front out text : List ℕ) → expand_text left set frames text (front ++ out) ≡ in_front front (expand_text left set frames text out)
behind_text left set frames front out text = text_adds (reference left set frames) (refer_adds left set frames) text front out

pub behind_law : (left : ℕ) (set : Setting) (frames : List Frame) (so_far text : List ℕ) → expand_text left set frames text so_far ≡ in_front so_far (expand_text left set frames text [])
behind_law left set frames so_far text = ap (expand_text left set frames text) (sym (append-nil so_far)) ∙ behind_text left set frames so_far [] text
