-- Reading in backquotes, and what is put where they close.
use Rattle.std.proofs.Common.{◌≡◌, ℕ, ◌+◌, ◌-◌, ◌<◌, ◌==◌, min, Bool, true, false, List, [], ◌∷◌, ◌++◌, map, drop, slice_get, length, refl, sym, ap, subst, ◌∙◌, arith, ◌⊎◌, inl, inr}
use Rattle.std.specs.Prelude.{Option, None, Some, IfSome, slice_index, option_map}
use Rattle.std.specs.List.{AllByRecursion}
use Rattle.std.proofs.lemmas.Bool.{eqb-true}
use Rattle.em_lexeme.specs.declared.lexeme.Lexed.{Lexed}
use Rattle.em_lexeme.specs.declared.lexeme.What.TheVariants.{SubstitutionStart, SubstitutionEnd}
use Rattle.em_lexeme.specs.declared.frame.Frame.{Frame}
use Rattle.em_lexeme.specs.declared.frame.Frame.TheVariants.{Backquotes}
use Rattle.em_lexeme.specs.declared.no.LexNo.{LexNo}
use Rattle.em_lexeme.specs.Bytes.{is_dropped}
use Rattle.em_lexeme.specs.Frames.{is_backquotes_quoted, is_quoted}
use Rattle.em_lexeme.specs.Operators.{zero_at}
use Rattle.em_lexeme.specs.Places.{moved, moved_fault}
use Rattle.em_lex.specs.declared.state.Byte.{Byte}
use Rattle.em_lex.specs.declared.state.Lexer.{Lexer}
use Rattle.em_lex.specs.declared.state.Mode.TheVariants.{Ready, Gathering}
use Rattle.em_lex.specs.Steps.{lexeme, popped, top}
use Rattle.em_lex.specs.Quotes.{raw}
use Rattle.em_lex.specs.Lexing.{embedded, with_fault}
use Rattle.em_lex.specs.Standing.{is_passed, Passed, Opens, Stands}
use Rattle.em_lex.proofs.Fits.{decide, either, Fit, Laid, SpotFits, FrameFits, ZeroFits, laid_append, last_of, note}
use Rattle.em_lex.proofs.Puts.{In}
use Rattle.em_lex.proofs.Backquoted.{Aligned, Begins, aligned_add, aligned_size, passed_none, passed_one, place_low, laid_there, fault_there}

-- in backquotes
pub record InBackquotes (t : List ℕ) (p : ℕ) (s : Lexer) : Type 0 where
  pub at : ℕ
  pub quoting : Bool
  pub outer : List Frame
  pub is : s.frames ≡ Backquotes at quoting ∷ outer
  pub opens : Opens t at
  pub frames : AllByRecursion (FrameFits t) outer
  pub spot : SpotFits t s.spot
  pub zero : ZeroFits t (zero_at (slice_get s.items (length s.items - 1)))
  pub fault : IfSome s.fault (Stands t)
  pub mode : s.mode ≡ Gathering
  pub items : Laid 0 0 s.items s.start (s.start + 1)
  pub edge : ℕ
  pub slash : ((s.backslash ≡ false) × (edge ≡ p)) ⊎ ((s.backslash ≡ true) × (edge + 1 ≡ p) × (slice_index t edge ≡ 92))
  pub text : Aligned t (s.start + 1) s.text s.places edge

go_on : {t : List ℕ} {p : ℕ} {s : Lexer} (on : Bool) (text places : List ℕ) (p' edge : ℕ) → InBackquotes t p s → ((on ≡ false) × (edge ≡ p')) ⊎ ((on ≡ true) × (edge + 1 ≡ p') × (slice_index t edge ≡ 92)) → Aligned t (s.start + 1) text places edge → InBackquotes t p' (record s { backslash = on; text = text; places = places })
go_on on text places p' edge h slash is = record {
  at = h.at;
  quoting = h.quoting;
  outer = h.outer;
  is = h.is;
  opens = h.opens;
  frames = h.frames;
  spot = h.spot;
  zero = h.zero;
  fault = h.fault;
  mode = h.mode;
  items = h.items;
  edge = edge;
  slash = slash;
  text = is;
}

slash_passed : (t : List ℕ) (a : ℕ) → slice_index t a ≡ 92 → is_passed (slice_index t a) ≡ true
slash_passed t a is = ap is_passed is

plain_raw : {t : List ℕ} {s : Lexer} (b : Byte) → In t b → slice_index t b.at ≡ b.code → InBackquotes t b.at s → s.backslash ≡ false → (h : (edge : ℕ) × (edge ≡ b.at) × Aligned t (s.start + 1) s.text s.places edge) → InBackquotes t b.end (raw s b)
unfolding raw
plain_raw {t} {s} b here code h plain at =
    let P = InBackquotes t b.end in
    let edge = at.0 in
    let same = at.1 in
    decide P s.backslash _ _ (λ e. let bad : true ≡ false = sym e ∙ plain in absurd cc)
    (λ _. decide P (b.code == 92) _ _
    (λ e. go_on true s.text s.places b.end edge h (inr (refl, omega arith, ap (slice_index t) same ∙ code ∙ eqb-true b.code 92 e)) at.2)
    (λ _. go_on s.backslash _ _ b.end (b.at + 1) h (inl (plain, omega arith)) (aligned_add t s.text s.places (s.start + 1) edge b.at b.code at.2 (omega arith) (subst (λ i. Passed t edge i) same (passed_none t edge)) code)))

slashed_raw : {t : List ℕ} {s : Lexer} (b : Byte) → In t b → slice_index t b.at ≡ b.code → InBackquotes t b.at s → s.backslash ≡ true → (h : (edge : ℕ) × (edge + 1 ≡ b.at) × (slice_index t edge ≡ 92) × Aligned t (s.start + 1) s.text s.places edge) → InBackquotes t b.end (raw s b)
unfolding raw
slashed_raw {t} {s} b here code h on at =
    let P = InBackquotes t b.end in
    let edge = at.0 in
    let next = at.1 in
    let before : edge ≡ b.at - 1 = omega arith in
    let there : slice_index t (b.at - 1) ≡ 92 = subst (λ i. slice_index t i ≡ 92) before at.2 in
    let gap = passed_one t edge b.at next (slash_passed t edge at.2) in
    let none : Passed t edge (b.at - 1) = subst (λ i. Passed t edge i) before (passed_none t edge) in
    let none_more : Passed t (b.at - 1 + 1) b.at = subst (λ i. Passed t (b.at - 1 + 1) i) (let e : b.at - 1 + 1 ≡ b.at = omega arith in e) (passed_none t (b.at - 1 + 1)) in
    let two = aligned_add t _ _ (s.start + 1) (b.at - 1 + 1) b.at b.code (aligned_add t s.text s.places (s.start + 1) edge (b.at - 1) 92 at.3 (omega arith) none there) (omega arith) none_more code in
    decide P s.backslash _ _
    (λ _. either P (is_dropped (is_backquotes_quoted (top s)) b.code) _ _
    (go_on false _ _ b.end (b.at + 1) h (inl (refl, omega arith)) (aligned_add t s.text s.places (s.start + 1) edge b.at b.code at.3 (omega arith) gap code))
    (go_on false _ _ b.end (b.at + 1) h (inl (refl, omega arith)) two))
    (λ e. let bad : true ≡ false = sym on ∙ e in absurd cc)

pub raw_fits : {t : List ℕ} {s : Lexer} (b : Byte) → In t b → slice_index t b.at ≡ b.code → InBackquotes t b.at s → InBackquotes t b.end (raw s b)
raw_fits {t} {s} b here code h = elim h.slash as (λ _. InBackquotes t b.end (raw s b)) [
  | inl x ↦ plain_raw b here code h x.0 (h.edge, x.1, h.text)
  | inr x ↦ slashed_raw b here code h x.0 (h.edge, x.1, x.2, h.text)
]

-- what stands between two backquotes, read by itself
pub record Inner (text : List ℕ) (l : Lexed) : Type 0 where
  pub items : Laid 0 0 l.items (length text) (length text + 1)
  pub stop : IfSome l.stop (Begins text)

with_fault_fits : {t : List ℕ} {e k : ℕ} {s : Lexer} (o : Option LexNo) → Fit t e k Ready s → IfSome o (Stands t) → Fit t e k Ready (with_fault o s)
with_fault_fits None h is = h
with_fault_fits (Some f) h is = note f h is

stop_there : (t bs ps : List ℕ) (lo hi : ℕ) (o : Option LexNo) → Aligned t lo bs ps hi → hi < length t → IfSome o (Begins bs) → IfSome (option_map (moved_fault ps hi) o) (Stands t)
stop_there t bs ps lo hi None h most is = tt
stop_there t bs ps lo hi (Some f) h most is = fault_there t bs ps lo hi f h most is

pub embedded_fits : {t : List ℕ} {s : Lexer} (inner : Lexed) (b : Byte) → In t b → InBackquotes t b.at s → s.backslash ≡ false → Aligned t (s.start + 1) s.text s.places b.at → Inner s.text inner → Fit t b.end b.end Ready (embedded inner s b)
unfolding embedded
embedded_fits {t} {s} inner b here h plain at is =
    let end = here.end in
    let size = aligned_size t s.text s.places (s.start + 1) b.at at in
    let behind = min (s.start + 1) b.at in
    let there : behind ≡ s.start + 1 = omega arith in
    let start = lexeme s.start behind (SubstitutionStart (is_quoted (top (popped s)))) in
    let begun : Laid 0 0 (s.items ++ start ∷ []) behind behind =
    laid_append s.items (start ∷ []) 0 0 s.start behind (s.start + 1) behind h.items (omega arith, omega arith, (omega arith, omega arith)) in
    let low = λ (j : ℕ). place_low t s.text s.places (s.start + 1) b.at j at in
    let first = low 0 in
    let all : Laid behind behind (map (moved s.places b.at) inner.items) b.at (b.at + 1) =
    laid_there t s.text s.places (s.start + 1) b.at inner.items 0 0 (length s.text + 1) behind behind at is.items (omega arith) (λ j from to. let more = low j in omega arith) (omega arith) in
    let more = laid_append _ _ 0 0 behind b.at behind (b.at + 1) begun all in
    let last = lexeme b.at b.end SubstitutionEnd in
    let items = (s.items ++ start ∷ []) ++ map (moved s.places b.at) inner.items in
    let put : Fit t b.end b.end Ready (record s { frames = drop 1 s.frames; mode = Ready; text = []; places = []; items = items ++ last ∷ [] }) = record {
      frames = subst (λ fs. AllByRecursion (FrameFits t) (drop 1 fs)) (sym h.is) h.frames;
      spot = h.spot;
      zero = subst (λ o. ZeroFits t (zero_at o)) (sym (last_of items last)) tt;
      fault = h.fault;
      places = refl;
      plain = plain;
      mode = refl;
      items = laid_append items (last ∷ []) 0 0 b.at b.end (b.at + 1) b.end more (omega arith, omega arith, (omega arith, omega arith));
    } in
    with_fault_fits _ put (stop_there t s.text s.places (s.start + 1) b.at inner.stop at here.within is.stop)
