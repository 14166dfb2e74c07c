-- A word without a byte of a pattern is none; and in a text without a head nothing is refused.
use Rattle.std.proofs.Common.{◌≡◌, ◌==◌, ℕ, Bool, true, false, not, ◌&&◌, ◌||◌, List, [], ◌∷◌, ◌++◌, Option, Some, None, refl}
use Rattle.std.specs.Prelude.{option_map, option_and_then}
use Rattle.std.specs.List.{list_all, position}
use Rattle.em_glob.specs.Patterns.{is_pattern}
use Rattle.em_namefn.specs.Wildcards.{glyphs_of}
use Rattle.em_statement.specs.Heads.{head_of, head_at, refusal_of, refusal_at, is_colon}
use Rattle.em_base.specs.declared.place.Place.{Place}
use Rattle.em_view.specs.Performs.{DeskState, Told}
use Rattle.em_view.proofs.Doing.{Goes, more_s, finish_s}
use Rattle.em_reading.specs.declared.reading.Reading.{Reading}
use Rattle.em_reading.specs.Faults.{is_free}
use Rattle.em_reader.specs.Hearing.{Reads}
use Rattle.em_reader.specs.Acting.{is_itself, matched}

no_or : (x y : Bool) → not (x || y) ≡ true → (x ≡ false) × (not y ≡ true)
no_or true y e = absurd cc
no_or false y e = (refl, e)

both : (x y : Bool) → (x && y) ≡ true → (x ≡ true) × (y ≡ true)
both true y e = (refl, e)
both false y e = absurd cc

is_no : (x : Bool) → not x ≡ true → x ≡ false
is_no true e = absurd cc
is_no false e = refl

pub plain_word : (word : List ℕ) → list_all is_itself word ≡ true → is_pattern (glyphs_of word) ≡ false
plain_word [] e = refl
plain_word (b ∷ bs) e =
    let here = both (is_itself b) (list_all is_itself bs) e in
    let star = no_or (b == 42) ((b == 63) || (b == 91)) here.0 in
    let question = no_or (b == 63) (b == 91) star.1 in
    let bracket = is_no (b == 91) question.1 in
    rw (star.0, question.0, bracket) (plain_word bs here.1)

-- the turn of a word that is none
pub plain_turn : {V : Type 0} {tells : V → Told} {first here : DeskState V} {s t : Reading} {whole : Reads (List (List ℕ))} (p : Place) (so_far : List (List ℕ)) (w : List ℕ) (ws : List (List ℕ)) → list_all is_itself w ≡ true
    → Goes is_free tells first here s t whole (matched p so_far (w ∷ ws)) → Goes is_free tells first here s t whole (matched p (so_far ++ w ∷ []) ws)
plain_turn p so_far w ws e inv = more_s (λ names. matched p (so_far ++ names) ws) inv (rw (plain_word w e) finish_s)

-- ---- heads

none_behind : (assigns : Bool) (text : List ℕ) (p : Option ℕ) → option_map (head_at text) p ≡ None → option_and_then (refusal_at assigns text) p ≡ None
none_behind assigns text None e = refl
none_behind assigns text (Some k) e = absurd (cc)

pub nothing_refused : (assigns : Bool) (text : List ℕ) → head_of text ≡ None → refusal_of assigns text ≡ None
unfolding head_of refusal_of
nothing_refused assigns text e = none_behind assigns text (position is_colon text) e
