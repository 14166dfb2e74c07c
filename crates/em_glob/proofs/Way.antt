-- Where a match stands: what has been shown of the pattern and the name at a place, behind the last
-- star.
use Rattle.std.proofs.Common.{◌≡◌, ℕ, zero, suc, ◌+◌, ◌-◌, ◌*◌, ◌<◌, ◌≤◌, true, false, List, [], ◌∷◌, length, drop, get_or, Option, Some, None, arith, refl, sym, ap, ◌∙◌}
use Rattle.std.proofs.lemmas.List.{drop-drop}
use Rattle.em_base.proofs.Lemmas.{by_cases, cell, none_at}
use Rattle.em_glob.specs.declared.glyph.Glyph.{Glyph}
use Rattle.em_glob.specs.declared.pattern.Place.{Place}
use Rattle.em_glob.specs.Patterns.{Piece, pieces, some_end, fits}
use Rattle.em_glob.specs.Steps.{passed, begins_any}
use Rattle.em_glob.proofs.Fitting.{end_here, end_later, end_found, passed_fits, passed_on, not_passed, star_at}

abbrev pub place : ℕ → ℕ → Place
place glyph byte = record { glyph = glyph; byte = byte }

abbrev pub left_of : List Glyph → ℕ → List Piece
left_of pattern p = pieces (drop p pattern)

-- the name from n on fits the pattern from p on
abbrev pub FitsAt : List Glyph → List ℕ → ℕ → ℕ → Type 0
FitsAt pattern name p n = fits (left_of pattern p) (drop n name) ≡ true

-- behind the last star: some end of the name from its byte on has to fit there, and each piece
-- since is one byte, so that what fits from there on fits from here on, as many bytes later
pub record Passed (pattern : List Glyph) (name : List ℕ) (at star : Place) : Type 0 where
  pub within : (star.glyph ≤ length pattern) × (star.byte ≤ at.byte)
  pub some : FitsAt pattern name 0 0 → (k : ℕ) × FitsAt pattern name star.glyph (star.byte + k)
  pub on : (k : ℕ) → FitsAt pattern name star.glyph (star.byte + k) → FitsAt pattern name at.glyph (at.byte + k)
  pub whole : (k : ℕ) → FitsAt pattern name star.glyph (star.byte + k) → FitsAt pattern name 0 0

abbrev pub Since : List Glyph → List ℕ → Place → Option Place → Type 0
Since pattern name at None = FitsAt pattern name 0 0 → FitsAt pattern name at.glyph at.byte
Since pattern name at (Some star) = Passed pattern name at star

pub record Way (pattern : List Glyph) (name : List ℕ) (at : Place) (star : Option Place) : Type 0 where
  pub within : (at.glyph ≤ length pattern) × (at.byte ≤ length name)
  pub whole : FitsAt pattern name at.glyph at.byte → FitsAt pattern name 0 0
  pub since : Since pattern name at star

-- the bytes that the last star is still to be tried from, each with the pattern and the name, and
-- what is left of these two
abbrev pub tried_from : Option Place → ℕ
tried_from None = 0
tried_from (Some star) = star.byte

abbrev pub left : List Glyph → List ℕ → Place → Option Place → ℕ
left pattern name at star =
    (length name - tried_from star) * (length pattern + length name + 1)
    + (length pattern - at.glyph) + (length name - at.byte)

module _ (pattern : List Glyph) (name : List ℕ) where
  same_at : (p n m : ℕ) → n ≡ m → FitsAt pattern name p n → FitsAt pattern name p m
  same_at p n m e f = ap (λ k. fits (left_of pattern p) (drop k name)) (sym e) ∙ f

  -- some end of the name has to fit from here on: no star before the last one has to be tried again
  here : (at : Place) (star : Option Place) → Way pattern name at star → FitsAt pattern name 0 0 →
      (k : ℕ) × FitsAt pattern name at.glyph (at.byte + k)
  here at None w f = (0, same_at at.glyph _ _ (omega arith) (w.since f))
  here at (Some star) w f = let some = w.since.some f in (some.0, w.since.on some.0 some.1)

  -- at a star
  pub way_star : (at : Place) (star : Option Place) → Way pattern name at star →
      begins_any (left_of pattern at.glyph) ≡ true →
      Way pattern name (place (at.glyph + 1) at.byte) (Some (place (at.glyph + 1) at.byte))
  way_star at star w any =
      let first = star_at pattern at.glyph any in
      let test = fits (left_of pattern (at.glyph + 1)) in
      let rest = drop at.byte name in
      let from : (k : ℕ) → drop k rest ≡ drop (at.byte + k) name = λ k. drop-drop k at.byte name in
      let whole : (k : ℕ) → FitsAt pattern name (at.glyph + 1) (at.byte + k) → FitsAt pattern name 0 0 = λ k f.
      let end = end_later test k rest (ap (some_end test) (from k) ∙ end_here test (drop (at.byte + k) name) f) in
      w.whole (rw first.1 end) in
      record {
        within = (omega arith, w.within.1);
        whole = λ f. whole 0 (same_at (at.glyph + 1) _ _ (omega arith) f);
        since = record {
          within = (omega arith, omega arith);
          some = λ f.
              let h = here at star w f in
              let end : some_end test (drop (at.byte + h.0) name) ≡ true = rw first.1 at h.1 in
              let found = end_found test rest (end_later test h.0 rest (ap (some_end test) (from h.0) ∙ end)) in
              (found.0, ap test (sym (from found.0)) ∙ found.1);
          on = λ k f. f;
          whole = whole;
        };
      }

  -- at a piece of one byte
  next_byte : (at : Place) → at.byte < length name →
      fits (left_of pattern at.glyph) (drop at.byte name)
      ≡ fits (left_of pattern at.glyph) (get_or name at.byte 0 ∷ drop (at.byte + 1) name)
  next_byte at low = ap (fits (left_of pattern at.glyph)) (cell name at.byte (get_or name at.byte 0) low refl)

  since_on : (at : Place) (star : Option Place) (next b : ℕ) →
      passed (left_of pattern at.glyph) b ≡ Some (left_of pattern next) →
      fits (left_of pattern at.glyph) (drop at.byte name) ≡ fits (left_of pattern next) (drop (at.byte + 1) name) →
      Since pattern name at star → Since pattern name (place next (at.byte + 1)) star
  since_on at None next b is same s = λ f. sym same ∙ s f
  since_on at (Some star) next b is same s = record {
    within = (s.within.0, omega (arith, s.within.1));
    some = s.some;
    on = λ k f.
        let more = passed_on (left_of pattern at.glyph) (left_of pattern next) b (drop (at.byte + k) name) is (s.on k f) in
        same_at next (at.byte + k + 1) (at.byte + 1 + k) (omega arith)
        (ap (fits (left_of pattern next)) (sym (drop-drop 1 (at.byte + k) name)) ∙ more);
    whole = s.whole;
  }

  pub way_on : (at : Place) (star : Option Place) (next : ℕ) → Way pattern name at star → at.byte < length name →
      next ≤ length pattern → passed (left_of pattern at.glyph) (get_or name at.byte 0) ≡ Some (left_of pattern next) →
      Way pattern name (place next (at.byte + 1)) star
  way_on at star next w low within is =
      let b = get_or name at.byte 0 in
      let more = passed_fits (left_of pattern at.glyph) (left_of pattern next) b (drop (at.byte + 1) name) is in
      let same = next_byte at low ∙ more in
      record {
        within = (within, omega (arith, w.within.0));
        whole = λ f. w.whole (same ∙ f);
        since = since_on at star next b is same w.since;
      }

  -- at a piece that doesn't take the byte
  abbrev IsStopped : Place → Type 0
  IsStopped at = (at.byte < length name) × (begins_any (left_of pattern at.glyph) ≡ false)
      × (passed (left_of pattern at.glyph) (get_or name at.byte 0) ≡ None)

  stopped : (at : Place) → IsStopped at → FitsAt pattern name at.glyph at.byte → ⊥
  stopped at h f =
      let b = get_or name at.byte 0 in
      let no = next_byte at h.0 ∙ not_passed (left_of pattern at.glyph) b (drop (at.byte + 1) name) h.2 h.1 in
      cc

  pub way_back : (at star : Place) → Way pattern name at (Some star) → IsStopped at →
      Way pattern name (place star.glyph (star.byte + 1)) (Some (place star.glyph (star.byte + 1)))
  way_back at star w h =
      let s = w.since in
      record {
        within = (s.within.0, omega (arith, s.within.1, h.0));
        whole = λ f. s.whole 1 f;
        since = record {
          within = (s.within.0, omega arith);
          some = λ f.
              let found = s.some f in
              elim found.0 as (λ k. FitsAt pattern name star.glyph (star.byte + k) →
              (m : ℕ) × FitsAt pattern name star.glyph (star.byte + 1 + m)) [
                | zero ↦ λ g. absurd (stopped at h (same_at at.glyph _ _ (omega arith) (s.on 0 g)))
                | suc k ↦ λ g. (k, same_at star.glyph _ _ (omega arith) g)
              ] found.1;
          on = λ k f. f;
          whole = λ k f. s.whole (suc k) (same_at star.glyph _ _ (omega arith) f);
        };
      }

  pub way_over : (at : Place) → Way pattern name at None → IsStopped at → false ≡ fits (pieces pattern) name
  way_over at w h = by_cases (fits (pieces pattern) name) (λ b. false ≡ b)
      (λ f. absurd (stopped at h (w.since f)))
      (λ _. refl)

  -- at the end of the name
  pub way_end : (at : Place) (star : Option Place) → Way pattern name at star → length name ≤ at.byte →
      fits (left_of pattern at.glyph) [] ≡ fits (pieces pattern) name
  way_end at star w end = by_cases (fits (left_of pattern at.glyph) []) (λ b. b ≡ fits (pieces pattern) name)
      (λ t. sym (w.whole (ap (fits (left_of pattern at.glyph)) (none_at name at.byte end) ∙ t)))
      (λ f. by_cases (fits (pieces pattern) name) (λ b. false ≡ b)
      (λ t. absurd (
      let h = here at star w t in
      let e : fits (left_of pattern at.glyph) [] ≡ true = rw (none_at name (at.byte + h.0) (omega arith)) at h.1 in
      cc))
      (λ _. refl))
