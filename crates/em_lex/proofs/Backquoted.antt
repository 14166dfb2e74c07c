-- What stands in backquotes: each of its bytes has its place in the text around.
use Rattle.std.proofs.Common.{◌≡◌, ℕ, zero, suc, ◌+◌, ◌<◌, ◌≤◌, true, List, [], ◌∷◌, ◌++◌, map, length, refl, sym, ap, subst, ◌∙◌, arith, ◌⊎◌, inl, inr}
use Rattle.std.specs.Prelude.{slice_index}
use Rattle.em_lexeme.specs.declared.lexeme.Lexeme.{Lexeme}
use Rattle.em_lexeme.specs.declared.lexeme.What.{What}
use Rattle.em_lexeme.specs.declared.lexeme.What.TheVariants.{WordStart, WordEnd}
use Rattle.em_lexeme.specs.declared.no.LexNo.{LexNo}
use Rattle.em_lexeme.specs.declared.no.LexNo.TheVariants.{Unclosed, Refused, NoMemory}
use Rattle.em_lexeme.specs.Places.{place_in, moved, moved_fault}
use Rattle.em_lex.specs.Standing.{is_quote, is_bracket, is_passed, Passed, OpensValue, Opens, Stands}
use Rattle.em_lex.proofs.Fits.{Sized, least, Laid}

pub passed_none : (t : List ℕ) (a : ℕ) → Passed t a a
passed_none t a = λ k from to. absurd (omega arith)

pub passed_join : (t : List ℕ) (a b c : ℕ) → Passed t a b → Passed t b c → Passed t a c
passed_join t a b c h more = λ k from to. grind arith

pub passed_one : (t : List ℕ) (a b : ℕ) → a + 1 ≡ b → is_passed (slice_index t a) ≡ true → Passed t a b
passed_one t a b next is = λ k from to. let same : k ≡ a = omega arith in subst (λ i. is_passed (slice_index t i) ≡ true) (sym same) is

-- the bytes of a text stand at these places, from lo on and before hi, with passed bytes between
-- them
abbrev pub Aligned : List ℕ → ℕ → List ℕ → List ℕ → ℕ → Type 0
Aligned t lo [] [] hi = (lo ≤ hi) × Passed t lo hi
Aligned t lo (b ∷ bs) (p ∷ ps) hi = (lo ≤ p) × Passed t lo p × (slice_index t p ≡ b) × Aligned t (p + 1) bs ps hi
Aligned t lo [] (p ∷ ps) hi = ⊥
Aligned t lo (b ∷ bs) [] hi = ⊥

pub aligned_add : (t bs ps : List ℕ) (lo hi at b : ℕ) → Aligned t lo bs ps hi → hi ≤ at → Passed t hi at → slice_index t at ≡ b → Aligned t lo (bs ++ b ∷ []) (ps ++ at ∷ []) (at + 1)
aligned_add t [] [] lo hi at b h near more is = (omega arith, passed_join t lo hi at h.1 more, is, (omega arith, passed_none t (at + 1)))
aligned_add t (c ∷ cs) (p ∷ ps) lo hi at b h near more is = (h.0, h.1, h.2, aligned_add t cs ps (p + 1) hi at b h.3 near more is)
aligned_add t [] (p ∷ ps) lo hi at b h near more is = absurd h
aligned_add t (c ∷ cs) [] lo hi at b h near more is = absurd h

pub aligned_size : (t bs ps : List ℕ) (lo hi : ℕ) → Aligned t lo bs ps hi → lo + length bs ≤ hi
aligned_size t [] [] lo hi h = omega arith
aligned_size t (b ∷ bs) (p ∷ ps) lo hi h = let more = aligned_size t bs ps (p + 1) hi h.3 in omega arith
aligned_size t [] (p ∷ ps) lo hi h = absurd h
aligned_size t (b ∷ bs) [] lo hi h = absurd h

pub place_low : (t bs ps : List ℕ) (lo hi i : ℕ) → Aligned t lo bs ps hi → lo ≤ place_in ps hi i
place_low t [] [] lo hi i h = h.0
place_low t (b ∷ bs) (p ∷ ps) lo hi zero h = h.0
place_low t (b ∷ bs) (p ∷ ps) lo hi (suc i) h = let more = place_low t bs ps (p + 1) hi i h.3 in omega arith
place_low t [] (p ∷ ps) lo hi i h = absurd h
place_low t (b ∷ bs) [] lo hi i h = absurd h

pub place_high : (t bs ps : List ℕ) (lo hi i : ℕ) → Aligned t lo bs ps hi → place_in ps hi i ≤ hi
place_high t [] [] lo hi i h = omega arith
place_high t (b ∷ bs) (p ∷ ps) lo hi zero h = let more = aligned_size t bs ps (p + 1) hi h.3 in omega arith
place_high t (b ∷ bs) (p ∷ ps) lo hi (suc i) h = place_high t bs ps (p + 1) hi i h.3
place_high t [] (p ∷ ps) lo hi i h = absurd h
place_high t (b ∷ bs) [] lo hi i h = absurd h

-- places rise with the bytes that stand there
pub place_rises : (t bs ps : List ℕ) (lo hi i j : ℕ) → Aligned t lo bs ps hi → i < j → i < length bs → place_in ps hi i < place_in ps hi j
place_rises t [] [] lo hi i j h below in_it = absurd (omega arith)
place_rises t (b ∷ bs) (p ∷ ps) lo hi i zero h below in_it = absurd (omega arith)
place_rises t (b ∷ bs) (p ∷ ps) lo hi zero (suc j) h below in_it = let more = place_low t bs ps (p + 1) hi j h.3 in omega arith
place_rises t (b ∷ bs) (p ∷ ps) lo hi (suc i) (suc j) h below in_it = place_rises t bs ps (p + 1) hi i j h.3 (omega arith) (omega arith)
place_rises t [] (p ∷ ps) lo hi i j h below in_it = absurd h
place_rises t (b ∷ bs) [] lo hi i j h below in_it = absurd h

pub place_keeps : (t bs ps : List ℕ) (lo hi i j : ℕ) → Aligned t lo bs ps hi → i ≤ j → place_in ps hi i ≤ place_in ps hi j
place_keeps t [] [] lo hi i j h below = omega arith
place_keeps t (b ∷ bs) (p ∷ ps) lo hi zero zero h below = omega arith
place_keeps t (b ∷ bs) (p ∷ ps) lo hi (suc i) zero h below = absurd (omega arith)
place_keeps t (b ∷ bs) (p ∷ ps) lo hi zero (suc j) h below = let more = place_low t bs ps (p + 1) hi j h.3 in omega arith
place_keeps t (b ∷ bs) (p ∷ ps) lo hi (suc i) (suc j) h below = place_keeps t bs ps (p + 1) hi i j h.3 (omega arith)
place_keeps t [] (p ∷ ps) lo hi i j h below = absurd h
place_keeps t (b ∷ bs) [] lo hi i j h below = absurd h

place_within : (t bs ps : List ℕ) (lo hi i : ℕ) → Aligned t lo bs ps hi → i < length bs → place_in ps hi i < hi
place_within t [] [] lo hi i h in_it = absurd (omega arith)
place_within t (b ∷ bs) (p ∷ ps) lo hi zero h in_it = let more = aligned_size t bs ps (p + 1) hi h.3 in omega arith
place_within t (b ∷ bs) (p ∷ ps) lo hi (suc i) h in_it = place_within t bs ps (p + 1) hi i h.3 (omega arith)
place_within t [] (p ∷ ps) lo hi i h in_it = absurd h
place_within t (b ∷ bs) [] lo hi i h in_it = absurd h

-- the byte is the same there
byte_there : (t bs ps : List ℕ) (lo hi i : ℕ) → Aligned t lo bs ps hi → i < length bs → slice_index t (place_in ps hi i) ≡ slice_index bs i
byte_there t [] [] lo hi i h in_it = absurd (omega arith)
byte_there t (b ∷ bs) (p ∷ ps) lo hi zero h in_it = h.2
byte_there t (b ∷ bs) (p ∷ ps) lo hi (suc i) h in_it = byte_there t bs ps (p + 1) hi i h.3 (omega arith)
byte_there t [] (p ∷ ps) lo hi i h in_it = absurd h
byte_there t (b ∷ bs) [] lo hi i h in_it = absurd h

passed_rest : (b : ℕ) (bs : List ℕ) (j k : ℕ) → Passed (b ∷ bs) (suc j) (suc k) → Passed bs j k
passed_rest b bs j k h = λ i from to. h (suc i) (omega arith) (omega arith)

-- passed bytes of the text stand among passed bytes
passed_to : (t bs ps : List ℕ) (lo hi k : ℕ) → Aligned t lo bs ps hi → k < length bs → Passed bs 0 k → Passed t lo (place_in ps hi k)
passed_to t [] [] lo hi k h in_it all = absurd (omega arith)
passed_to t (b ∷ bs) (p ∷ ps) lo hi zero h in_it all = h.1
passed_to t (b ∷ bs) (p ∷ ps) lo hi (suc k) h in_it all =
    let first : is_passed (slice_index t p) ≡ true = subst (λ c. is_passed c ≡ true) (sym h.2) (all 0 (omega arith) (omega arith)) in
    let rest : Passed bs 0 k = λ i from to. all (suc i) (omega arith) (omega arith) in
    let behind = passed_to t bs ps (p + 1) hi k h.3 (omega arith) rest in
    passed_join t lo p _ h.1 (passed_join t p (p + 1) _ (passed_one t p (p + 1) refl first) behind)
passed_to t [] (p ∷ ps) lo hi k h in_it all = absurd h
passed_to t (b ∷ bs) [] lo hi k h in_it all = absurd h

passed_between : (t bs ps : List ℕ) (lo hi i k : ℕ) → Aligned t lo bs ps hi → i < k → k < length bs → Passed bs (i + 1) k → Passed t (place_in ps hi i + 1) (place_in ps hi k)
passed_between t [] [] lo hi i k h below in_it all = absurd (omega arith)
passed_between t (b ∷ bs) (p ∷ ps) lo hi i zero h below in_it all = absurd (omega arith)
passed_between t (b ∷ bs) (p ∷ ps) lo hi zero (suc k) h below in_it all =
    let rest : Passed bs 0 k = λ i from to. all (suc i) (omega arith) (omega arith) in
    passed_to t bs ps (p + 1) hi k h.3 (omega arith) rest
passed_between t (b ∷ bs) (p ∷ ps) lo hi (suc i) (suc k) h below in_it all =
    let rest : Passed bs (i + 1) k = λ n from to. all (suc n) (omega arith) (omega arith) in
    passed_between t bs ps (p + 1) hi i k h.3 (omega arith) (omega arith) rest
passed_between t [] (p ∷ ps) lo hi i k h below in_it all = absurd h
passed_between t (b ∷ bs) [] lo hi i k h below in_it all = absurd h

pub opens_there : (t bs ps : List ℕ) (lo hi at : ℕ) → Aligned t lo bs ps hi → hi ≤ length t → Opens bs at → Opens t (place_in ps hi at)
opens_there t bs ps lo hi at h most is =
    let here = is.within in
    let before = place_within t bs ps lo hi at h here in
    let same = byte_there t bs ps lo hi at h here in
    record {
      within = omega arith;
      mark = elim is.mark as (λ _. (is_quote (slice_index t (place_in ps hi at)) ≡ true) ⊎ OpensValue t (place_in ps hi at)) [
        | inl quote ↦ inl (ap is_quote same ∙ quote)
        | inr value ↦
            let further = value.further in
            let within = value.within in
            let end = place_within t bs ps lo hi value.behind h within in
            inr (record {
              dollar = same ∙ value.dollar;
              behind = place_in ps hi value.behind;
              further = place_rises t bs ps lo hi at value.behind h further here;
              within = omega arith;
              bracket = ap is_bracket (byte_there t bs ps lo hi value.behind h within) ∙ value.bracket;
              passed = passed_between t bs ps lo hi at value.behind h further within value.passed;
            })
      ];
    }

-- a fault of the text in backquotes; too many levels of them are refused at the begin of an empty
-- text, too
abbrev pub Begins : List ℕ → LexNo → Type 0
Begins t (Unclosed at) = Opens t at
Begins t (Refused construct at) = Unit {0}
Begins t NoMemory = ⊥

pub fault_there : (t bs ps : List ℕ) (lo hi : ℕ) (f : LexNo) → Aligned t lo bs ps hi → hi < length t → Begins bs f → Stands t (moved_fault ps hi f)
fault_there t bs ps lo hi (Unclosed at) h most is = opens_there t bs ps lo hi at h (omega arith) is
fault_there t bs ps lo hi (Refused construct at) h most is = let high = place_high t bs ps lo hi at h in omega arith
fault_there t bs ps lo hi NoMemory h most is = absurd is

-- lexemes of the text, at their places
sized_order : (w : What) (m from to : ℕ) → Sized w m from to → from ≤ to
sized_order (WordStart w) m from to is = omega arith
sized_order WordEnd m from to is = let same = is.0 in omega arith
sized_order _ m from to is = omega arith

pub laid_end : (ls : List Lexeme) (a m e k : ℕ) → Laid a m ls e k → a ≤ e
laid_end [] a m e k h = h.0
laid_end (l ∷ ls) a m e k h =
    let some = sized_order l.what m l.span.start l.span.end h.1 in
    let near = h.0 in
    let more = laid_end ls l.span.end (least l.what l.span.start m) e k h.2 in
    omega arith

sized_there : (t bs ps : List ℕ) (lo hi : ℕ) (w : What) (m m' from to : ℕ) → Aligned t lo bs ps hi → to ≤ length bs → ((j : ℕ) → m ≤ j → j ≤ length bs → m' ≤ place_in ps hi j) → Sized w m from to → Sized w m' (place_in ps hi from) (place_in ps hi to)
sized_there t bs ps lo hi (WordStart w) m m' from to h most rise is = ap (place_in ps hi) is
sized_there t bs ps lo hi WordEnd m m' from to h most rise is = (ap (place_in ps hi) is.0, rise from is.1 (let same = is.0 in omega arith))
sized_there t bs ps lo hi _ m m' from to h most rise is = place_rises t bs ps lo hi from to h is (omega arith)

least_there : (t bs ps : List ℕ) (lo hi : ℕ) (w : What) (m m' at : ℕ) → Aligned t lo bs ps hi → ((j : ℕ) → m ≤ j → j ≤ length bs → m' ≤ place_in ps hi j) → (j : ℕ) → least w at m ≤ j → j ≤ length bs → least w (place_in ps hi at) m' ≤ place_in ps hi j
least_there t bs ps lo hi (WordStart w) m m' at h rise j below most = let more = place_rises t bs ps lo hi at j h (omega arith) (omega arith) in omega arith
least_there t bs ps lo hi _ m m' at h rise j below most = rise j below most

least_high : (t bs ps : List ℕ) (lo hi : ℕ) (w : What) (m' at : ℕ) → Aligned t lo bs ps hi → m' ≤ hi + 1 → least w (place_in ps hi at) m' ≤ hi + 1
least_high t bs ps lo hi (WordStart w) m' at h high = let more = place_high t bs ps lo hi at h in omega arith
least_high t bs ps lo hi _ m' at h high = high

pub laid_there : (t bs ps : List ℕ) (lo hi : ℕ) (ls : List Lexeme) (a m k a' m' : ℕ) → Aligned t lo bs ps hi → Laid a m ls (length bs) k → a' ≤ place_in ps hi a → ((j : ℕ) → m ≤ j → j ≤ length bs → m' ≤ place_in ps hi j) → m' ≤ hi + 1 → Laid a' m' (map (moved ps hi) ls) hi (hi + 1)
laid_there t bs ps lo hi [] a m k a' m' h laid near rise high = (let most = place_high t bs ps lo hi a h in omega arith, high)
laid_there t bs ps lo hi (l ∷ ls) a m k a' m' h laid near rise high =
    let from = l.span.start in
    let to = l.span.end in
    let most = laid_end ls to (least l.what from m) (length bs) k laid.2 in
    let keeps = place_keeps t bs ps lo hi a from h laid.0 in (
      omega arith,
      sized_there t bs ps lo hi l.what m m' from to h most rise laid.1,
      laid_there t bs ps lo hi ls to (least l.what from m) k (place_in ps hi to) (least l.what (place_in ps hi from) m') h laid.2 (omega arith)
          (least_there t bs ps lo hi l.what m m' from h rise) (least_high t bs ps lo hi l.what m' from h high),
    )
