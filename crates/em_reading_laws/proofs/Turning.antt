-- Lines that are read, and what stands behind them.
use Rattle.std.proofs.Common.{◌≡◌, ◌≢◌, ◌⊎◌, ◌∙◌, inl, inr, ℕ, suc, List, [], ◌∷◌, ◌++◌, append-nil, Option, Some, None, Result, Ok, Err, refl, sym, ap}
use Rattle.em_base.specs.declared.place.Place.{Place}
use Rattle.em_lines.specs.declared.line.Line.{Line}
use Rattle.em_view.specs.Actions.{Oracle, Workspace, go_on, ◌>>=◌}
use Rattle.em_view.specs.Steps.{and_then, own}
use Rattle.em_reading.specs.declared.no.ReadNo.{ReadNo}
use Rattle.em_reading.specs.declared.no.MakefileFault.TheVariants as fault
use Rattle.em_reading.specs.declared.reading.Reading.{Reading}
use Rattle.em_reading.specs.declared.reading.OpenDefine.{OpenDefine}
use Rattle.em_reading.specs.Faults.{at_place}
use Rattle.em_reading.specs.Changes.{unended}
use Rattle.em_reader.specs.Reading.{Deeper, read_line, read_lines, read_text}
use Rattle.em_reading_laws.specs.Steps.{state_of}
use Rattle.em_reading_laws.specs.Reading.{End, from_there}
use Rattle.em_reading_laws.proofs.Stepping.{never}

abbrev Ended : Type 0
Ended = Result (Unit {0} × Reading) (ReadNo × Reading)

abbrev told_in : ReadNo → Ended → ReadNo
told_in found (Ok p) = found
told_in found (Err p) = p.0

abbrev pub Parts : Deeper → List Line → Reading → Oracle → Workspace → Type 0
Parts deeper front r o w = (e : End) × ((too_long : Option Place) (rest : List Line) → read_lines deeper too_long (front ++ rest) r o w ≡ from_there e (read_lines deeper too_long rest) o)

pub parted : (deeper : Deeper) (front : List Line) (r : Reading) (o : Oracle) (w : Workspace) → Parts deeper front r o w
unfolding and_then ◌>>=◌
parted deeper [] r o w = ((Ok (tt, r), w), λ too_long rest. refl)
parted deeper (l ∷ ls) r o w = by_end (λ q v. parted deeper ls q o v) (read_line deeper l r o w).0 (read_line deeper l r o w).1
  where
    by_end : ((q : Reading) (v : Workspace) → Parts deeper ls q o v) → (x : Ended) (v : Workspace) → (e : End) × ((too_long : Option Place) (rest : List Line) → go_on x v (λ p. read_lines deeper too_long (ls ++ rest) p.1) o ≡ from_there e (read_lines deeper too_long rest) o)
    by_end more (Ok p) v = more p.1 v
    by_end more (Err p) v = ((Err p, v), λ too_long rest. refl)

module _ (deeper : Deeper) (front : List Line) (r : Reading) (o : Oracle) (w : Workspace) where
  -- the text that the lines alone are
  alone : read_lines deeper None front r o w ≡ from_there (parted deeper front r o w).0 (read_lines deeper None []) o
  alone = ap (λ (ls : List Line). read_lines deeper None ls r o w) (sym (append-nil front)) ∙ (parted deeper front r o w).1 None []

  module _ (too_long : Option Place) (rest : List Line) where
    abbrev rest_from : End → End
    rest_from e = from_there e (read_lines deeper too_long rest) o

    abbrev ended : End → End
    ended e = from_there e (read_lines deeper None []) o

    sound_at : (q s : Reading) (u v : Workspace) (d : Option OpenDefine) → q.define ≡ d → ◌≡◌ {A = End} (unended d q, u) (Ok (tt, s), v) → rest_from (Ok (tt, q), u) ≡ read_lines deeper too_long rest s o v
    sound_at q s u v None is h = let same : q ≡ s = ap (λ (z : End). state_of z.0) h in let here : u ≡ v = ap (λ (z : End). z.1) h in rw (same, here) refl
    sound_at q s u v (Some b) is h = absurd (never (at_place b.place fault.Define, q) (tt, s) u v h)

    sound_by : (x : Ended) (u : Workspace) (s : Reading) (v : Workspace) → ended (x, u) ≡ (Ok (tt, s), v) → rest_from (x, u) ≡ read_lines deeper too_long rest s o v
    unfolding own
    sound_by (Ok p) u s v h = sound_at p.1 s u v p.1.define refl h
    sound_by (Err p) u s v h = absurd (never p (tt, s) u v h)

    pub sound : (s : Reading) (v : Workspace) → read_lines deeper None front r o w ≡ (Ok (tt, s), v) → read_lines deeper too_long (front ++ rest) r o w ≡ read_lines deeper too_long rest s o v
    sound s v h = let e = (parted deeper front r o w).0 in (parted deeper front r o w).1 too_long rest ∙ sound_by e.0 e.1 s v (sym alone ∙ h)

    open_at : (q s : Reading) (found : ReadNo) (u v : Workspace) (d : Option OpenDefine) → q.define ≡ d → ◌≡◌ {A = End} (unended d q, u) (Err (found, s), v) → (b : OpenDefine) × (s.define ≡ Some b) × (found ≡ at_place b.place fault.Define) × (rest_from (Ok (tt, q), u) ≡ read_lines deeper too_long rest s o v)
    open_at q s found u v None is h = absurd (never (found, s) (tt, q) v u (sym h))
    open_at q s found u v (Some b) is h =
        let same : q ≡ s = ap (λ (z : End). state_of z.0) h in
        let here : u ≡ v = ap (λ (z : End). z.1) h in
        let told : at_place b.place fault.Define ≡ found = ap (λ (z : End). told_in found z.0) h in
        (b, ap (λ (x : Reading). x.define) (sym same) ∙ is, sym told, rw (same, here) refl)

    faulty_by : (x : Ended) (u : Workspace) (s : Reading) (found : ReadNo) (v : Workspace) → ended (x, u) ≡ (Err (found, s), v)
        → ((b : OpenDefine) × (s.define ≡ Some b) × (found ≡ at_place b.place fault.Define) × (rest_from (x, u) ≡ read_lines deeper too_long rest s o v)) ⊎ (rest_from (x, u) ≡ (Err (found, s), v))
    unfolding own
    faulty_by (Ok p) u s found v h = inl (open_at p.1 s found u v p.1.define refl h)
    faulty_by (Err p) u s found v h = inr h

    abbrev Faulty : Reading → ReadNo → Workspace → Type 0
    Faulty s found v = ((b : OpenDefine) × (s.define ≡ Some b) × (found ≡ at_place b.place fault.Define) × (read_lines deeper too_long (front ++ rest) r o w ≡ read_lines deeper too_long rest s o v)) ⊎ (read_lines deeper too_long (front ++ rest) r o w ≡ (Err (found, s), v))

    faulty : (s : Reading) (found : ReadNo) (v : Workspace) → read_lines deeper None front r o w ≡ (Err (found, s), v) → Faulty s found v
    faulty s found v h = by ((parted deeper front r o w).1 too_long rest) (faulty_by (parted deeper front r o w).0.0 (parted deeper front r o w).0.1 s found v (sym alone ∙ h))
      where
        by : read_lines deeper too_long (front ++ rest) r o w ≡ rest_from (parted deeper front r o w).0 → ((b : OpenDefine) × (s.define ≡ Some b) × (found ≡ at_place b.place fault.Define) × (rest_from (parted deeper front r o w).0 ≡ read_lines deeper too_long rest s o v)) ⊎ (rest_from (parted deeper front r o w).0 ≡ (Err (found, s), v)) → Faulty s found v
        by whole (inl x) = inl (x.0, x.1, x.2, whole ∙ x.3)
        by whole (inr x) = inr (whole ∙ x)

    pub opened : (s : Reading) (b : OpenDefine) (v : Workspace) → s.define ≡ Some b → read_lines deeper None front r o w ≡ (Err (at_place b.place fault.Define, s), v)
        → (read_lines deeper too_long (front ++ rest) r o w ≡ read_lines deeper too_long rest s o v) ⊎ (read_lines deeper too_long (front ++ rest) r o w ≡ (Err (at_place b.place fault.Define, s), v))
    opened s b v is h = by (faulty s (at_place b.place fault.Define) v h)
      where
        by : Faulty s (at_place b.place fault.Define) v → (read_lines deeper too_long (front ++ rest) r o w ≡ read_lines deeper too_long rest s o v) ⊎ (read_lines deeper too_long (front ++ rest) r o w ≡ (Err (at_place b.place fault.Define, s), v))
        by (inl x) = inl x.3
        by (inr x) = inr x

    pub refused : (s : Reading) (found : ReadNo) (v : Workspace) → ((b : OpenDefine) → s.define ≡ Some b → found ≢ at_place b.place fault.Define) → read_lines deeper None front r o w ≡ (Err (found, s), v)
        → read_lines deeper too_long (front ++ rest) r o w ≡ (Err (found, s), v)
    refused s found v other h = by (faulty s found v h)
      where
        by : Faulty s found v → read_lines deeper too_long (front ++ rest) r o w ≡ (Err (found, s), v)
        by (inl x) = absurd (other x.0 x.1 x.2)
        by (inr x) = x

pub text_law : (left : ℕ) (p : Place) (front rest : List Line) (too_long : Option Place) (r s : Reading) (o : Oracle) (w v : Workspace)
    → read_text (suc left) p (record { lines = front; too_long = None }) r o w ≡ (Ok (tt, s), v)
    → read_text (suc left) p (record { lines = front ++ rest; too_long = too_long }) r o w ≡ read_text (suc left) p (record { lines = rest; too_long = too_long }) s o v
unfolding read_text
text_law left p front rest too_long r s o w v h = sound (read_text left) front r o w too_long rest s v h

pub open_law : (left : ℕ) (p : Place) (front rest : List Line) (too_long : Option Place) (r s : Reading) (b : OpenDefine) (o : Oracle) (w v : Workspace) → s.define ≡ Some b
    → read_text (suc left) p (record { lines = front; too_long = None }) r o w ≡ (Err (at_place b.place fault.Define, s), v)
    → (read_text (suc left) p (record { lines = front ++ rest; too_long = too_long }) r o w ≡ read_text (suc left) p (record { lines = rest; too_long = too_long }) s o v)
    ⊎ (read_text (suc left) p (record { lines = front ++ rest; too_long = too_long }) r o w ≡ (Err (at_place b.place fault.Define, s), v))
unfolding read_text
open_law left p front rest too_long r s b o w v is h = opened (read_text left) front r o w too_long rest s b v is h

pub refused_law : (left : ℕ) (p : Place) (front rest : List Line) (too_long : Option Place) (r s : Reading) (found : ReadNo) (o : Oracle) (w v : Workspace)
    → ((b : OpenDefine) → s.define ≡ Some b → found ≢ at_place b.place fault.Define)
    → read_text (suc left) p (record { lines = front; too_long = None }) r o w ≡ (Err (found, s), v)
    → read_text (suc left) p (record { lines = front ++ rest; too_long = too_long }) r o w ≡ (Err (found, s), v)
unfolding read_text
refused_law left p front rest too_long r s found o w v other h = refused (read_text left) front r o w too_long rest s found v other h
