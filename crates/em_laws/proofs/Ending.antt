-- With what grep ends.
use Rattle.std.proofs.Common.{◌≡◌, ◌≢◌, ℕ, ◌≤◌, ◌||◌, Bool, true, false, cond, List, [], ◌∷◌, ◌++◌, map, length, refl, sym, ap, ◌∙◌, arith, append_assoc, append-nil}
use Rattle.std.specs.Prelude.{All, decimal, nat_lt}
use Rattle.std.specs.List.{AllByRecursion}
use Rattle.std.proofs.lemmas.Bool.{lt-ltb, ne_eqb}
use Rattle.std.proofs.lemmas.List.Elements.{recursion_from_All}
use Rattle.em_base.proofs.Lemmas.{by_cases}
use Rattle.em_view.specs.declared.done.Done.{Done}
use Rattle.em_view.specs.declared.done.Piece.{Piece}
use Rattle.em_lineutil.specs.Searching.{selected, prefixed}
use Rattle.em_utility.specs.declared.reason.Reason.{Reason}
use Rattle.em_utility.specs.declared.reason.Reason.TheVariants as reason
use Rattle.em_utility.specs.Reasons.{status_for}
use Rattle.em_utility.specs.Writing.{nothing, written}
use Rattle.em_textutil.specs.declared.job.Grep.{Grep}
use Rattle.em_textutil.specs.declared.source.OperandContent.{OperandContent}
use Rattle.em_textutil.specs.declared.source.OperandContent.TheVariants.{Bytes, No}
use Rattle.em_textutil.specs.declared.source.ReadOperand.{ReadOperand}
use Rattle.em_textutil.specs.Jobs.{front_of, count_behind, shown_lines, grep_found, grep_each, has_line, some_line, grep_status, grep_done}
use Rattle.em_laws.specs.Rows.{read_as, on_output}

abbrev FileText : Type 0
FileText = List ℕ × List ℕ

written_status : (text : List ℕ) (d : Done) → (written 1 text d).status ≡ d.status
written_status [] d = refl
written_status (b ∷ bs) d = refl

reason_status : (r : Reason) → 1 ≤ status_for r
reason_status (reason.File f) = omega arith
reason_status reason.BadPath = omega arith
reason_status reason.SameFile = omega arith
reason_status reason.NotANumber = omega arith
reason_status reason.MissingOperand = omega arith
reason_status reason.ExtraOperand = omega arith

module _ (g : Grep) where
  each_status : (files : List FileText) (d : Done) → (grep_each g (map read_as files) d).status ≡ d.status
  each_status [] d = refl
  each_status (f ∷ fs) d = each_status fs (grep_found g f.0 (Bytes f.1) d) ∙ written_status (shown_lines g f.0 (selected g.search g.pattern f.1)) d

  found_rises : (name : List ℕ) (x : OperandContent) (d : Done) → d.status ≤ (grep_found g name x d).status
  found_rises name (Bytes text) d = let e = written_status (shown_lines g name (selected g.search g.pattern text)) d in omega arith
  found_rises name (No r) d = omega arith

  each_rises : (ss : List ReadOperand) (d : Done) → d.status ≤ (grep_each g ss d).status
  each_rises [] d = omega arith
  each_rises (s ∷ ss) d = let a = found_rises s.name s.found d in let b = each_rises ss (grep_found g s.name s.found d) in omega arith

  has_lines : (text : List ℕ) → selected g.search g.pattern text ≢ [] → has_line g (Bytes text) ≡ true
  has_lines text h = by_lines (selected g.search g.pattern text) h
    where
      by_lines : (ls : List (List ℕ)) → ls ≢ [] → nat_lt 0 (length ls) ≡ true
      by_lines [] h = absurd (h refl)
      by_lines (l ∷ ls) h = lt-ltb 0 (length (l ∷ ls)) (omega arith)

  some_among : (before after : List FileText) (name text : List ℕ) → has_line g (Bytes text) ≡ true → some_line g (map read_as (before ++ (name, text) ∷ after)) ≡ true
  some_among [] after name text h = ap (λ b. b || some_line g (map read_as after)) h
  some_among (f ∷ fs) after name text h = by_cases (has_line g (Bytes f.1)) (λ b. (b || some_line g (map read_as (fs ++ (name, text) ∷ after))) ≡ true) (λ _. refl) (λ _. some_among fs after name text h)

  pub grep_some : (before after : List FileText) (name text : List ℕ) → selected g.search g.pattern text ≢ [] → (grep_done g (map read_as (before ++ (name, text) ∷ after))).status ≡ 0
  grep_some before after name text h =
      let files = before ++ (name, text) ∷ after in
      ap (grep_status (some_line g (map read_as files))) (each_status files nothing) ∙ ap (λ b. grep_status b 0) (some_among before after name text (has_lines text h))

  no_line : (files : List FileText) → AllByRecursion (λ f. selected g.search g.pattern f.1 ≡ []) files → some_line g (map read_as files) ≡ false
  no_line [] h = refl
  no_line (f ∷ fs) h = ap (λ (ls : List (List ℕ)). nat_lt 0 (length ls) || some_line g (map read_as fs)) h.0 ∙ no_line fs h.1

  pub grep_without : (files : List FileText) → All (λ f. selected g.search g.pattern f.1 ≡ []) files → (grep_done g (map read_as files)).status ≡ 1
  grep_without files h = ap (grep_status (some_line g (map read_as files))) (each_status files nothing) ∙ ap (λ b. grep_status b 0) (no_line files (recursion_from_All _ files h))

  fault_status : (before after : List ReadOperand) (name : List ℕ) (r : Reason) (d : Done) → 1 ≤ (grep_each g (before ++ (record { name = name; found = No r }) ∷ after) d).status
  fault_status [] after name r d =
      let one = reason_status r in
      let more = each_rises after (grep_found g name (No r) d) in
      omega arith
  fault_status (s ∷ ss) after name r d = fault_status ss after name r (grep_found g s.name s.found d)

  pub grep_fault : (before after : List ReadOperand) (name : List ℕ) (r : Reason) → (grep_done g (before ++ (record { name = name; found = No r }) ∷ after)).status ≡ 2
  grep_fault before after name r =
      let ss = before ++ (record { name = name; found = No r }) ∷ after in
      let some = fault_status before after name r nothing in
      rw (ne_eqb (grep_each g ss nothing).status 0 (λ e. omega arith)) refl

  quiet_each : (files : List FileText) (d : Done) → g.quiet ≡ true → (grep_each g (map read_as files) d).pieces ≡ d.pieces
  quiet_each [] d h = refl
  quiet_each (f ∷ fs) d h = quiet_each fs (grep_found g f.0 (Bytes f.1) d) h
      ∙ ap (λ t. (written 1 (cond t [] (cond g.counted (count_behind (front_of g f.0) (length (selected g.search g.pattern f.1))) (prefixed (front_of g f.0) (selected g.search g.pattern f.1)))) d).pieces) h

  pub grep_quiet : (files : List FileText) → g.quiet ≡ true → (grep_done g (map read_as files)).pieces ≡ []
  grep_quiet files h = quiet_each files nothing h

  -- the line that tells how many
  abbrev told : List ℕ → List ℕ → List ℕ
  told front text = front ++ decimal (length (selected g.search g.pattern text)) ++ 10 ∷ []

  ends : (front : List ℕ) (b : ℕ) → front ++ b ∷ [] ≢ []
  ends [] b e = cc
  ends (f ∷ fs) b e = cc

  put_down : (text : List ℕ) (d : Done) → text ≢ [] → (written 1 text d).pieces ≡ d.pieces ++ on_output text ∷ []
  put_down [] d h = absurd (h refl)
  put_down (b ∷ bs) d h = refl

  count_found : (name text : List ℕ) (several : Bool) (d : Done) → g.quiet ≡ false → g.counted ≡ true → g.several ≡ several →
      (grep_found g name (Bytes text) d).pieces ≡ d.pieces ++ on_output (told (cond several (name ++ 58 ∷ []) []) text) ∷ []
  count_found name text several d q c m =
      let shown : shown_lines g name (selected g.search g.pattern text) ≡ told (cond several (name ++ 58 ∷ []) []) text = rw (q, c, m) refl in
      ap (λ (t : List ℕ). (written 1 t d).pieces) shown ∙ put_down (told (cond several (name ++ 58 ∷ []) []) text) d (ends (cond several (name ++ 58 ∷ []) [] ++ decimal (length (selected g.search g.pattern text))) 10)

  pub grep_counted : (name text : List ℕ) → g.quiet ≡ false → g.counted ≡ true → g.several ≡ false → (grep_done g (read_as (name, text) ∷ [])).pieces ≡ on_output (decimal (length (selected g.search g.pattern text)) ++ 10 ∷ []) ∷ []
  grep_counted name text q c m = count_found name text false nothing q c m

  count_each : (files : List FileText) (d : Done) → g.quiet ≡ false → g.counted ≡ true → g.several ≡ true →
      (grep_each g (map read_as files) d).pieces ≡ d.pieces ++ map (λ f. on_output (f.0 ++ 58 ∷ decimal (length (selected g.search g.pattern f.1)) ++ 10 ∷ [])) files
  count_each [] d q c m = sym (append-nil d.pieces)
  count_each (f ∷ fs) d q c m =
      let rest = map (λ (z : FileText). on_output (z.0 ++ 58 ∷ decimal (length (selected g.search g.pattern z.1)) ++ 10 ∷ [])) fs in
      count_each fs (grep_found g f.0 (Bytes f.1) d) q c m ∙ ap (λ (ps : List Piece). ps ++ rest) (count_found f.0 f.1 true d q c m)
      ∙ append_assoc d.pieces (on_output (told (f.0 ++ 58 ∷ []) f.1) ∷ []) rest
      ∙ ap (λ (t : List ℕ). d.pieces ++ on_output (t ++ 10 ∷ []) ∷ rest) (append_assoc f.0 (58 ∷ []) (decimal (length (selected g.search g.pattern f.1))))

  pub grep_counted_each : (files : List FileText) → g.quiet ≡ false → g.counted ≡ true → g.several ≡ true →
      (grep_done g (map read_as files)).pieces ≡ map (λ f. on_output (f.0 ++ 58 ∷ decimal (length (selected g.search g.pattern f.1)) ++ 10 ∷ [])) files
  grep_counted_each files q c m = count_each files nothing q c m
