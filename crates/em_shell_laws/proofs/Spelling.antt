-- The longest operator is read; a backslash and a newline vanish.
use Rattle.std.proofs.Common.{◌≡◌, ◌≢◌, ◌≤◌, ℕ, suc, ◌+◌, ◌==◌, Bool, true, false, List, [], ◌∷◌, ◌++◌, length, Option, Some, None, add-zero, refl, ap, ◌∙◌, arith, subst, sym}
use Rattle.std.specs.Prelude.{codes, slice_get, ◌-◌}
use Rattle.std.specs.List.{AllByRecursion}
use Rattle.std.proofs.lemmas.Bool.{ne_eqb, eqb-true}
use Rattle.std.proofs.lemmas.List.Elements.{recursion_from_All}
use Rattle.em_base.proofs.Lemmas.{by_cases}
use Rattle.em_lexeme.specs.declared.frame.Frame.{Frame}
use Rattle.em_lexeme.specs.declared.frame.Frame.TheVariants as frame
use Rattle.em_lexeme.specs.declared.lexeme.Lexed.{Lexed}
use Rattle.em_lexeme.specs.declared.lexeme.What.{What}
use Rattle.em_lexeme.specs.declared.lexeme.What.TheVariants.{Bytes, Semicolon, CaseEnd, Ampersand, AndIf, OrIf, Pipe, LeftParen, Less, Great, DoubleGreat, GreatAnd}
use Rattle.em_lexeme.specs.Frames.{is_list, is_single, is_backquotes}
use Rattle.em_lexeme.specs.Operators.{zero_at}
use Rattle.em_lexeme.specs.Spots.{is_item, spot_behind}
use Rattle.em_lex.specs.Steps.{lexeme, top, emitted, spent}
use Rattle.em_lex.specs.Lexing.{next, run, byte_at, at_first, finished, outcome, word_left}
use Rattle.em_lex.specs.Modes.{between, ready, operating, settled}
use Rattle.em_lex.specs.Brackets.{refused_zero, operated, round_opened}
use Rattle.em_lex.specs.Quotes.{heeds_backslash, is_gathering, piece_begun, escaped_in, escaped, step}
use Rattle.em_shell_laws.specs.Operators.{State, IsBetween, from_there, spelling, longer, Starts, IsLongest, Reads}

abbrev Within : Type 0
Within = List ℕ → Lexed

no_backquotes : (f : Option Frame) → is_list f ≡ true → is_backquotes f ≡ false
no_backquotes None e = refl
no_backquotes (Some frame.Round) e = refl
no_backquotes (Some frame.Cases) e = refl
no_backquotes (Some frame.InWord) e = refl
no_backquotes (Some (frame.Single at)) e = refl
no_backquotes (Some (frame.Double at)) e = refl
no_backquotes (Some (frame.Backquotes at quoting)) e = absurd cc
no_backquotes (Some (frame.Argument at quoted)) e = refl
no_backquotes (Some (frame.Substitution at spot)) e = refl

not_single : (f : Option Frame) → is_list f ≡ true → is_single f ≡ false
not_single None e = refl
not_single (Some frame.Round) e = refl
not_single (Some frame.Cases) e = refl
not_single (Some frame.InWord) e = refl
not_single (Some (frame.Single at)) e = absurd cc
not_single (Some (frame.Double at)) e = refl
not_single (Some (frame.Backquotes at quoting)) e = refl
not_single (Some (frame.Argument at quoted)) e = refl
not_single (Some (frame.Substitution at spot)) e = refl

-- ---- a backslash and a newline

module _ (within : Within) (s : State) (at : ℕ) where
  first : s.backslash ≡ false → is_backquotes (top s) ≡ false → heeds_backslash s ≡ true → next within s (byte_at 92 at) ≡ record s { backslash = true }
  unfolding step
  first none outside heeds = rw (outside, none, heeds) refl

  second : is_backquotes (top s) ≡ false → next within (record s { backslash = true }) (byte_at 10 (at + 1)) ≡ record s { backslash = false }
  unfolding step
  second outside = rw outside refl

  back : s.backslash ≡ false → record s { backslash = false } ≡ s
  back none = ap (λ (b : Bool). let x : State = record s { backslash = b } in x) (sym none)

  pub vanishes : (rest : List ℕ) → s.backslash ≡ false → is_backquotes (top s) ≡ false → heeds_backslash s ≡ true → from_there within s at (92 ∷ 10 ∷ rest) ≡ from_there within s (at + 2) rest
  vanishes rest none outside heeds =
      let further : at + suc (suc (length rest)) ≡ at + 2 + length rest = omega arith in
      let two : at + 1 + 1 ≡ at + 2 = omega arith in
      ap (λ (x : State). outcome (finished (run within (next within x (byte_at 10 (at + 1))) (at + 1 + 1) rest) (at + suc (suc (length rest))))) (first none outside heeds)
      ∙ ap (λ (x : State). outcome (finished (run within x (at + 1 + 1) rest) (at + suc (suc (length rest))))) (second outside ∙ back none)
      ∙ ap (λ (n : ℕ). outcome (finished (run within s (at + 1 + 1) rest) n)) further
      ∙ ap (λ (n : ℕ). outcome (finished (run within s n rest) (at + 2 + length rest))) two

-- ---- a byte behind a backslash

module _ (within : Within) (x : State) (none : x.backslash ≡ false) where
  unslashed : record x { backslash = false } ≡ x
  unslashed = ap (λ (b : Bool). let y : State = record x { backslash = b } in y) (sym none)

  quotes : (b n : ℕ) → (b == 10) ≡ false → is_backquotes (top x) ≡ false → is_gathering x.mode ≡ false → next within (record x { backslash = true }) (byte_at b n) ≡ escaped_in (piece_begun x (n - 1)) (byte_at b n)
  unfolding step escaped
  quotes b n newline apart plain = read ∙ ap (λ (y : State). escaped y (byte_at b n)) unslashed ∙ begins
    where
      begins : escaped x (byte_at b n) ≡ escaped_in (piece_begun x (n - 1)) (byte_at b n)
      begins = rw plain refl

      read : next within (record x { backslash = true }) (byte_at b n) ≡ escaped (record x { backslash = false }) (byte_at b n)
      read = rw (apart, newline) refl

  last : (n : ℕ) → finished (record x { backslash = true }) n ≡ word_left (settled (emitted (piece_begun x (n - 1)) (n - 1) n (Bytes true (92 ∷ []))) n) n
  unfolding finished
  last n = ap (λ (y : State). word_left (settled (emitted (piece_begun y (n - 1)) (n - 1) n (Bytes true (92 ∷ []))) n) n) unslashed

-- ---- operators

module _ (within : Within) (s : State) (at : ℕ) where
  -- where nothing is begun
  abbrev clear : State
  clear = record s { mode = at_first.mode; backslash = false }

  -- the first byte of an operator is read
  abbrev begun : ℕ → State
  begun a = record clear { mode = (next within at_first (byte_at a 0)).mode; start = at; text = [] }

  -- an operator of one byte
  abbrev alone : ℕ → State
  alone a = settled (begun a) (at + 1)

  abbrev Begins : ℕ → Type 0
  Begins a = next within clear (byte_at a at) ≡ begun a

  abbrev GoesOn : ℕ → ℕ → Type 0
  GoesOn a b = next within (begun a) (byte_at b (at + 1)) ≡ next within (alone a) (byte_at b (at + 1))

  abbrev Closes : ℕ → Type 0
  Closes a = finished (begun a) (at + 1) ≡ finished (alone a) (at + 1)

  -- what a backslash does behind an operator of one byte, and how what it quotes begins
  record Slashed (a : ℕ) : Type 0 where
    before : next within (begun a) (byte_at 92 (at + 1)) ≡ record (begun a) { backslash = true }
    behind : next within (alone a) (byte_at 92 (at + 1)) ≡ record (alone a) { backslash = true }
    whole : (alone a).backslash ≡ false
    apart : is_backquotes (top (alone a)) ≡ false
    plain : is_gathering (begun a).mode ≡ false
    plain_behind : is_gathering (alone a).mode ≡ false
    piece : piece_begun (begun a) (at + 1) ≡ piece_begun (alone a) (at + 1)

  module _ (list : is_list (top s) ≡ true) where
    outside : is_backquotes (top s) ≡ false
    outside = no_backquotes (top s) list

    unquoted : is_single (top s) ≡ false
    unquoted = not_single (top s) list

    semicolon_begins : Begins 59
    unfolding step ready between
    semicolon_begins = rw (outside, list) refl

    ampersand_begins : Begins 38
    unfolding step ready between
    ampersand_begins = rw (outside, list) refl

    bar_begins : Begins 124
    unfolding step ready between
    bar_begins = rw (outside, list) refl

    less_begins : Begins 60
    unfolding step ready between
    less_begins = rw (outside, list) refl

    great_begins : Begins 62
    unfolding step ready between
    great_begins = rw (outside, list) refl

    semicolon_read : (b : ℕ) → (b == 92) ≡ false → next within (begun 59) (byte_at b (at + 1)) ≡ operating 59 (begun 59) (byte_at b (at + 1))
    unfolding step ready between
    semicolon_read b slash = rw (outside, slash) refl

    semicolon_apart : (b : ℕ) → (b == 59) ≡ false → operating 59 (begun 59) (byte_at b (at + 1)) ≡ ready (operated (begun 59) Semicolon (at + 1)) (byte_at b (at + 1))
    unfolding operating
    semicolon_apart b same = rw same refl

    semicolon_alone : alone 59 ≡ operated (begun 59) Semicolon (at + 1)
    unfolding settled step ready between
    semicolon_alone = refl

    semicolon_next : (b : ℕ) → (b == 92) ≡ false → next within (operated (begun 59) Semicolon (at + 1)) (byte_at b (at + 1)) ≡ ready (operated (begun 59) Semicolon (at + 1)) (byte_at b (at + 1))
    unfolding step operated
    semicolon_next b slash = rw (outside, slash) refl

    semicolon_on : (b : ℕ) → (b == 92) ≡ false → (b == 59) ≡ false → GoesOn 59 b
    semicolon_on b slash same = semicolon_read b slash ∙ semicolon_apart b same ∙ sym (ap (λ (x : State). next within x (byte_at b (at + 1))) semicolon_alone ∙ semicolon_next b slash)

    ampersand_read : (b : ℕ) → (b == 92) ≡ false → next within (begun 38) (byte_at b (at + 1)) ≡ operating 38 (begun 38) (byte_at b (at + 1))
    unfolding step ready between
    ampersand_read b slash = rw (outside, slash) refl

    ampersand_apart : (b : ℕ) → (b == 38) ≡ false → operating 38 (begun 38) (byte_at b (at + 1)) ≡ ready (operated (begun 38) Ampersand (at + 1)) (byte_at b (at + 1))
    unfolding operating
    ampersand_apart b same = rw same refl

    ampersand_alone : alone 38 ≡ operated (begun 38) Ampersand (at + 1)
    unfolding settled step ready between
    ampersand_alone = refl

    ampersand_next : (b : ℕ) → (b == 92) ≡ false → next within (operated (begun 38) Ampersand (at + 1)) (byte_at b (at + 1)) ≡ ready (operated (begun 38) Ampersand (at + 1)) (byte_at b (at + 1))
    unfolding step operated
    ampersand_next b slash = rw (outside, slash) refl

    ampersand_on : (b : ℕ) → (b == 92) ≡ false → (b == 38) ≡ false → GoesOn 38 b
    ampersand_on b slash same = ampersand_read b slash ∙ ampersand_apart b same ∙ sym (ap (λ (x : State). next within x (byte_at b (at + 1))) ampersand_alone ∙ ampersand_next b slash)

    bar_read : (b : ℕ) → (b == 92) ≡ false → next within (begun 124) (byte_at b (at + 1)) ≡ operating 124 (begun 124) (byte_at b (at + 1))
    unfolding step ready between
    bar_read b slash = rw (outside, slash) refl

    bar_apart : (b : ℕ) → (b == 124) ≡ false → operating 124 (begun 124) (byte_at b (at + 1)) ≡ ready (operated (begun 124) Pipe (at + 1)) (byte_at b (at + 1))
    unfolding operating
    bar_apart b same = rw same refl

    bar_alone : alone 124 ≡ operated (begun 124) Pipe (at + 1)
    unfolding settled step ready between
    bar_alone = refl

    bar_next : (b : ℕ) → (b == 92) ≡ false → next within (operated (begun 124) Pipe (at + 1)) (byte_at b (at + 1)) ≡ ready (operated (begun 124) Pipe (at + 1)) (byte_at b (at + 1))
    unfolding step operated
    bar_next b slash = rw (outside, slash) refl

    bar_on : (b : ℕ) → (b == 92) ≡ false → (b == 124) ≡ false → GoesOn 124 b
    bar_on b slash same = bar_read b slash ∙ bar_apart b same ∙ sym (ap (λ (x : State). next within x (byte_at b (at + 1))) bar_alone ∙ bar_next b slash)

    less_read : (b : ℕ) → (b == 92) ≡ false → next within (begun 60) (byte_at b (at + 1)) ≡ operating 60 (begun 60) (byte_at b (at + 1))
    unfolding step ready between
    less_read b slash = rw (outside, slash) refl

    less_apart : (b : ℕ) → (b == 60) ≡ false → (b == 38) ≡ false → (b == 62) ≡ false → operating 60 (begun 60) (byte_at b (at + 1)) ≡ ready (operated (begun 60) Less (at + 1)) (byte_at b (at + 1))
    unfolding operating
    less_apart b same and great = rw (same, and, great) refl

    less_alone : alone 60 ≡ operated (begun 60) Less (at + 1)
    unfolding settled step ready between
    less_alone = refl

    less_next : (b : ℕ) → (b == 92) ≡ false → next within (operated (begun 60) Less (at + 1)) (byte_at b (at + 1)) ≡ ready (operated (begun 60) Less (at + 1)) (byte_at b (at + 1))
    unfolding step operated
    less_next b slash = rw (outside, slash) refl

    less_on : (b : ℕ) → (b == 92) ≡ false → (b == 60) ≡ false → (b == 38) ≡ false → (b == 62) ≡ false → GoesOn 60 b
    less_on b slash same and great = less_read b slash ∙ less_apart b same and great ∙ sym (ap (λ (x : State). next within x (byte_at b (at + 1))) less_alone ∙ less_next b slash)

    great_read : (b : ℕ) → (b == 92) ≡ false → next within (begun 62) (byte_at b (at + 1)) ≡ operating 62 (begun 62) (byte_at b (at + 1))
    unfolding step ready between
    great_read b slash = rw (outside, slash) refl

    great_apart : (b : ℕ) → (b == 62) ≡ false → (b == 38) ≡ false → (b == 124) ≡ false → operating 62 (begun 62) (byte_at b (at + 1)) ≡ ready (operated (begun 62) Great (at + 1)) (byte_at b (at + 1))
    unfolding operating
    great_apart b same and bar = rw (same, and, bar) refl

    great_alone : alone 62 ≡ operated (begun 62) Great (at + 1)
    unfolding settled step ready between
    great_alone = refl

    great_next : (b : ℕ) → (b == 92) ≡ false → next within (operated (begun 62) Great (at + 1)) (byte_at b (at + 1)) ≡ ready (operated (begun 62) Great (at + 1)) (byte_at b (at + 1))
    unfolding step operated
    great_next b slash = rw (outside, slash) refl

    great_on : (b : ℕ) → (b == 92) ≡ false → (b == 62) ≡ false → (b == 38) ≡ false → (b == 124) ≡ false → GoesOn 62 b
    great_on b slash same and bar = great_read b slash ∙ great_apart b same and bar ∙ sym (ap (λ (x : State). next within x (byte_at b (at + 1))) great_alone ∙ great_next b slash)

    semicolon_closes : Closes 59
    unfolding finished step ready between operated settled
    semicolon_closes = refl

    ampersand_closes : Closes 38
    unfolding finished step ready between operated settled
    ampersand_closes = refl

    bar_closes : Closes 124
    unfolding finished step ready between operated settled
    bar_closes = refl

    less_closes : Closes 60
    unfolding finished step ready between operated settled
    less_closes = refl

    great_closes : Closes 62
    unfolding finished step ready between operated settled
    great_closes = refl

    semicolon_is : IsBetween (alone 59) × ((alone 59).items ≡ s.items ++ lexeme at (at + 1) Semicolon ∷ [])
    unfolding step ready between operated settled
    semicolon_is = ((refl, refl, list), refl)

    ampersand_is : IsBetween (alone 38) × ((alone 38).items ≡ s.items ++ lexeme at (at + 1) Ampersand ∷ [])
    unfolding step ready between operated settled
    ampersand_is = ((refl, refl, list), refl)

    bar_is : IsBetween (alone 124) × ((alone 124).items ≡ s.items ++ lexeme at (at + 1) Pipe ∷ [])
    unfolding step ready between operated settled
    bar_is = ((refl, refl, list), refl)

    less_is : IsBetween (alone 60) × ((alone 60).items ≡ s.items ++ lexeme at (at + 1) Less ∷ [])
    unfolding step ready between operated settled
    less_is = ((refl, refl, list), refl)

    great_is : IsBetween (alone 62) × ((alone 62).items ≡ s.items ++ lexeme at (at + 1) Great ∷ [])
    unfolding step ready between operated settled
    great_is = ((refl, refl, list), refl)

    semicolon_slashed : Slashed 59
    unfolding step ready between operated settled piece_begun
    semicolon_slashed = record { before = rw (outside, unquoted) refl; behind = rw (outside, unquoted) refl; whole = refl; apart = outside; plain = refl; plain_behind = refl; piece = refl }

    ampersand_slashed : Slashed 38
    unfolding step ready between operated settled piece_begun
    ampersand_slashed = record { before = rw (outside, unquoted) refl; behind = rw (outside, unquoted) refl; whole = refl; apart = outside; plain = refl; plain_behind = refl; piece = refl }

    bar_slashed : Slashed 124
    unfolding step ready between operated settled piece_begun
    bar_slashed = record { before = rw (outside, unquoted) refl; behind = rw (outside, unquoted) refl; whole = refl; apart = outside; plain = refl; plain_behind = refl; piece = refl }

    less_slashed : Slashed 60
    unfolding step ready between operated settled piece_begun
    less_slashed = record { before = rw (outside, unquoted) refl; behind = rw (outside, unquoted) refl; whole = refl; apart = outside; plain = refl; plain_behind = refl; piece = refl }

    great_slashed : Slashed 62
    unfolding step ready between operated settled piece_begun
    great_slashed = record { before = rw (outside, unquoted) refl; behind = rw (outside, unquoted) refl; whole = refl; apart = outside; plain = refl; plain_behind = refl; piece = refl }

    -- two bytes
    abbrev Pairs : ℕ → ℕ → What → Type 0
    Pairs a b what = (let t : State = next within (begun a) (byte_at b (at + 1)) in IsBetween t × (t.items ≡ s.items ++ lexeme at (at + 1 + 1) what ∷ []))

    case_end_is : Pairs 59 59 CaseEnd
    unfolding step ready between operating operated
    case_end_is = rw outside ((refl, refl, list), refl)

    and_if_is : Pairs 38 38 AndIf
    unfolding step ready between operating operated
    and_if_is = rw outside ((refl, refl, list), refl)

    or_if_is : Pairs 124 124 OrIf
    unfolding step ready between operating operated
    or_if_is = rw outside ((refl, refl, list), refl)

    double_great_is : Pairs 62 62 DoubleGreat
    unfolding step ready between operating operated
    double_great_is = rw outside ((refl, refl, list), refl)

    -- a descriptor 0 before it is a fault, and the operator is read all the same
    abbrev put : Option ℕ → State
    put z = (let q = refused_zero z (begun 62) in spent (record (emitted q q.start (at + 1 + 1) GreatAnd) { spot = spot_behind GreatAnd (top q) q.spot q.start }))

    put_is : (z : Option ℕ) → IsBetween (put z) × ((put z).items ≡ s.items ++ lexeme at (at + 1 + 1) GreatAnd ∷ [])
    unfolding step ready between operating operated
    put_is None = ((refl, refl, list), refl)
    put_is (Some n) = ((refl, refl, list), refl)

    great_and_is : Pairs 62 38 GreatAnd
    unfolding step ready between operating operated
    great_and_is = rw outside (put_is (zero_at (slice_get s.items (length s.items - 1))))

    paren_by : (x : Bool) → is_item s.spot ≡ x → (let t : State = round_opened clear (byte_at 40 at) in IsBetween t × (t.items ≡ s.items ++ lexeme at (at + 1) LeftParen ∷ []))
    unfolding round_opened
    paren_by true e = rw e ((refl, refl, list), refl)
    paren_by false e = rw e ((refl, refl, refl), refl)

    paren_is : (let t : State = next within clear (byte_at 40 at) in IsBetween t × (t.items ≡ s.items ++ lexeme at (at + 1) LeftParen ∷ []))
    unfolding step ready between
    paren_is = rw (outside, list) (paren_by (is_item s.spot) refl)

  module _ (is : IsBetween s) where
    same : s ≡ clear
    same = ap (λ (m : _). let x : State = record s { mode = m } in x) is.0 ∙ ap (λ (b : Bool). let x : State = record s { mode = at_first.mode; backslash = b } in x) is.1

    first_is : (a : ℕ) → Begins a → next within s (byte_at a at) ≡ begun a
    first_is a begins = ap (λ (x : State). next within x (byte_at a at)) same ∙ begins

    module _ (a : ℕ) (slashed : Slashed a) where
      before_it : at + 1 + 1 - 1 ≡ at + 1
      before_it = omega arith

      -- where the operator is all that is told of yet, what is quoted begins as behind it
      begins_same : piece_begun (begun a) (at + 1 + 1 - 1) ≡ piece_begun (alone a) (at + 1 + 1 - 1)
      begins_same = subst (λ n. piece_begun (begun a) n ≡ piece_begun (alone a) n) (sym before_it) slashed.piece

      quoted_on : (b : ℕ) → (b == 10) ≡ false → next within (next within (begun a) (byte_at 92 (at + 1))) (byte_at b (at + 1 + 1)) ≡ next within (next within (alone a) (byte_at 92 (at + 1))) (byte_at b (at + 1 + 1))
      quoted_on b newline =
          ap (λ (x : State). next within x (byte_at b (at + 1 + 1))) slashed.before
          ∙ quotes within (begun a) refl b (at + 1 + 1) newline (no_backquotes (top s) is.2) slashed.plain
          ∙ ap (λ (x : State). escaped_in x (byte_at b (at + 1 + 1))) begins_same
          ∙ sym (ap (λ (x : State). next within x (byte_at b (at + 1 + 1))) slashed.behind ∙ quotes within (alone a) slashed.whole b (at + 1 + 1) newline slashed.apart slashed.plain_behind)

      last_same : finished (next within (begun a) (byte_at 92 (at + 1))) (at + 1 + 1) ≡ finished (next within (alone a) (byte_at 92 (at + 1))) (at + 1 + 1)
      last_same =
          ap (λ (x : State). finished x (at + 1 + 1)) slashed.before ∙ last within (begun a) refl (at + 1 + 1)
          ∙ ap (λ (x : State). word_left (settled (emitted x (at + 1 + 1 - 1) (at + 1 + 1) (Bytes true (92 ∷ []))) (at + 1 + 1)) (at + 1 + 1)) begins_same
          ∙ sym (ap (λ (x : State). finished x (at + 1 + 1)) slashed.behind ∙ last within (alone a) slashed.whole (at + 1 + 1))

      -- what is read from behind the operator's byte
      abbrev Same : List ℕ → Type 0
      Same tail = finished (run within (begun a) (at + 1) tail) (at + 1 + length tail) ≡ finished (run within (alone a) (at + 1) tail) (at + 1 + length tail)

      slash_same : (tail : List ℕ) → ((more : List ℕ) → tail ≢ 10 ∷ more) → Same (92 ∷ tail)
      slash_same [] none = last_same
      slash_same (b ∷ more) none = ap (λ (x : State). finished (run within x (at + 1 + 1 + 1) more) (at + 1 + length (92 ∷ b ∷ more))) (quoted_on b (ne_eqb b 10 (λ e. none more (ap (λ c. c ∷ more) e))))

    one : (a : ℕ) (what : What) (rest : List ℕ) → Begins a → Closes a → Slashed a → IsBetween (alone a) × ((alone a).items ≡ s.items ++ lexeme at (at + 1) what ∷ [])
        → ((more : List ℕ) → rest ≢ 92 ∷ 10 ∷ more) → ((b : ℕ) (more : List ℕ) → rest ≡ b ∷ more → (b == 92) ≡ false → GoesOn a b) → Reads within s at what 1 (a ∷ rest) rest
    one a what rest begins closes slashed facts none goes = record {
      behind = alone a;
      between = facts.0;
      items = facts.1;
      goes_on = (let further : at + suc (length rest) ≡ at + 1 + length rest = omega arith in
          ap (λ (x : State). outcome (finished (run within x (at + 1) rest) (at + suc (length rest)))) (first_is a begins)
          ∙ ap (λ (n : ℕ). outcome (finished (run within (begun a) (at + 1) rest) n)) further
          ∙ ap outcome (by rest refl));
    }
      where
        by : (tail : List ℕ) → rest ≡ tail → Same a slashed tail
        by [] e = subst (λ n. finished (begun a) n ≡ finished (alone a) n) (sym (add-zero (at + 1))) closes
        by (b ∷ more) e = by_cases (b == 92) (λ x. (b == 92) ≡ x → Same a slashed (b ∷ more))
            (λ _ f. subst (λ c. Same a slashed (c ∷ more)) (sym (eqb-true b 92 f)) (slash_same a slashed more (λ m g. none m (e ∙ ap (λ c. c ∷ more) (eqb-true b 92 f) ∙ ap (λ l. 92 ∷ l) g))))
            (λ _ f. ap (λ (x : State). finished (run within x (at + 1 + 1) more) (at + 1 + length (b ∷ more))) (goes b more e f)) refl

    two : (a b : ℕ) (what : What) (rest : List ℕ) → Begins a → Pairs is.2 a b what → Reads within s at what 2 (a ∷ b ∷ rest) rest
    two a b what rest begins facts = record {
      behind = next within (begun a) (byte_at b (at + 1));
      between = facts.0;
      items = subst (λ (n : ℕ). (next within (begun a) (byte_at b (at + 1))).items ≡ s.items ++ lexeme at n what ∷ []) (let e : at + 1 + 1 ≡ at + 2 = omega arith in e) facts.1;
      goes_on = (let further : at + suc (suc (length rest)) ≡ at + 2 + length rest = omega arith in let next_at : at + 1 + 1 ≡ at + 2 = omega arith in
          ap (λ (x : State). outcome (finished (run within (next within x (byte_at b (at + 1))) (at + 1 + 1) rest) (at + suc (suc (length rest))))) (first_is a begins)
          ∙ ap (λ (n : ℕ). outcome (finished (run within (next within (begun a) (byte_at b (at + 1))) (at + 1 + 1) rest) n)) further
          ∙ ap (λ (n : ℕ). outcome (finished (run within (next within (begun a) (byte_at b (at + 1))) n rest) (at + 2 + length rest))) next_at);
    }

    paren : (rest : List ℕ) → Reads within s at LeftParen 1 (40 ∷ rest) rest
    paren rest = let facts = paren_is is.2 in record {
      behind = next within clear (byte_at 40 at);
      between = facts.0;
      items = facts.1;
      goes_on = (let further : at + suc (length rest) ≡ at + 1 + length rest = omega arith in
          ap (λ (x : State). outcome (finished (run within (next within x (byte_at 40 at)) (at + 1) rest) (at + suc (length rest)))) same
          ∙ ap (λ (n : ℕ). outcome (finished (run within (next within clear (byte_at 40 at)) (at + 1) rest) n)) further);
    }

    -- a byte that makes no longer operator
    other : (a b c : ℕ) (rest more : List ℕ) → (Starts (a ∷ c ∷ []) (a ∷ rest) → 2 ≤ 1) → rest ≡ b ∷ more → (b == c) ≡ false
    other a b c rest more none e = ne_eqb b c (λ same_byte. (let low : 2 ≤ 1 = none (more, ap (λ l. a ∷ l) e ∙ ap (λ x. a ∷ x ∷ more) same_byte) in absurd (omega (arith, low))))

    spelled : (bytes op : List ℕ) → Some bytes ≡ Some op → bytes ≡ op
    spelled bytes op e = cc

    known : (bytes op rest : List ℕ) → Some bytes ≡ Some op → IsLongest op rest → AllByRecursion (λ o. Starts o (bytes ++ rest) → length o ≤ length bytes) longer
    known bytes op rest e all = recursion_from_All (λ o. Starts o (bytes ++ rest) → length o ≤ length bytes) longer (subst (λ o. IsLongest o rest) (sym (spelled bytes op e)) all)

    pub longest : (what : What) (op rest : List ℕ) → spelling what ≡ Some op → IsLongest op rest → ((more : List ℕ) → rest ≢ 92 ∷ 10 ∷ more) → Reads within s at what (length op) (op ++ rest) rest
    longest Semicolon op rest e all none = subst (λ o. Reads within s at Semicolon (length o) (o ++ rest) rest) (spelled (codes ";") op e)
        (one 59 Semicolon rest (semicolon_begins is.2) (semicolon_closes is.2) (semicolon_slashed is.2) (semicolon_is is.2) none (λ b more f slash. semicolon_on is.2 b slash (other 59 b 59 rest more (known (codes ";") op rest e all).0 f)))
    longest CaseEnd op rest e all none = subst (λ o. Reads within s at CaseEnd (length o) (o ++ rest) rest) (spelled (codes ";;") op e) (two 59 59 CaseEnd rest (semicolon_begins is.2) (case_end_is is.2))
    longest Ampersand op rest e all none = subst (λ o. Reads within s at Ampersand (length o) (o ++ rest) rest) (spelled (codes "&") op e)
        (one 38 Ampersand rest (ampersand_begins is.2) (ampersand_closes is.2) (ampersand_slashed is.2) (ampersand_is is.2) none (λ b more f slash. ampersand_on is.2 b slash (other 38 b 38 rest more (known (codes "&") op rest e all).1.0 f)))
    longest AndIf op rest e all none = subst (λ o. Reads within s at AndIf (length o) (o ++ rest) rest) (spelled (codes "&&") op e) (two 38 38 AndIf rest (ampersand_begins is.2) (and_if_is is.2))
    longest Pipe op rest e all none = subst (λ o. Reads within s at Pipe (length o) (o ++ rest) rest) (spelled (codes "|") op e)
        (one 124 Pipe rest (bar_begins is.2) (bar_closes is.2) (bar_slashed is.2) (bar_is is.2) none (λ b more f slash. bar_on is.2 b slash (other 124 b 124 rest more (known (codes "|") op rest e all).1.1.0 f)))
    longest OrIf op rest e all none = subst (λ o. Reads within s at OrIf (length o) (o ++ rest) rest) (spelled (codes "||") op e) (two 124 124 OrIf rest (bar_begins is.2) (or_if_is is.2))
    longest LeftParen op rest e all none = subst (λ o. Reads within s at LeftParen (length o) (o ++ rest) rest) (spelled (codes "(") op e) (paren rest)
    longest Less op rest e all none = subst (λ o. Reads within s at Less (length o) (o ++ rest) rest) (spelled (codes "<") op e)
        (one 60 Less rest (less_begins is.2) (less_closes is.2) (less_slashed is.2) (less_is is.2) none (λ b more f slash. (let k = known (codes "<") op rest e all in
        less_on is.2 b slash (other 60 b 60 rest more k.1.1.1.1.1.0 f) (other 60 b 38 rest more k.1.1.1.1.1.1.0 f) (other 60 b 62 rest more k.1.1.1.1.1.1.1.0 f))))
    longest Great op rest e all none = subst (λ o. Reads within s at Great (length o) (o ++ rest) rest) (spelled (codes ">") op e)
        (one 62 Great rest (great_begins is.2) (great_closes is.2) (great_slashed is.2) (great_is is.2) none (λ b more f slash. (let k = known (codes ">") op rest e all in
        great_on is.2 b slash (other 62 b 62 rest more k.1.1.1.0 f) (other 62 b 38 rest more k.1.1.1.1.0 f) (other 62 b 124 rest more k.1.1.1.1.1.1.1.1.0 f))))
    longest DoubleGreat op rest e all none = subst (λ o. Reads within s at DoubleGreat (length o) (o ++ rest) rest) (spelled (codes ">>") op e) (two 62 62 DoubleGreat rest (great_begins is.2) (double_great_is is.2))
    longest GreatAnd op rest e all none = subst (λ o. Reads within s at GreatAnd (length o) (o ++ rest) rest) (spelled (codes ">&") op e) (two 62 38 GreatAnd rest (great_begins is.2) (great_and_is is.2))
    longest _ op rest e all none = absurd cc
