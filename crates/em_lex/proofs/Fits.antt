-- What reading keeps true of its state: where all that it holds stands in the text.
use Rattle.std.proofs.Common.{◌≡◌, ℕ, ◌+◌, ◌-◌, ◌<◌, ◌≤◌, Bool, true, false, cond, List, [], ◌∷◌, ◌++◌, drop, slice_get, length, refl, sym, ap, subst, ◌∙◌, length-append, arith}
use Rattle.std.specs.Prelude.{Option, None, Some, IfSome}
use Rattle.std.specs.List.{AllByRecursion}
use Rattle.std.proofs.lemmas.Option.{slice_get-get_or}
use Rattle.std.proofs.Math.Seq.{get_or-append_seam}
use Rattle.em_base.specs.declared.construct.Construct.{Construct}
use Rattle.em_lexeme.specs.declared.lexeme.Lexeme.{Lexeme}
use Rattle.em_lexeme.specs.declared.lexeme.Start.{Start}
use Rattle.em_lexeme.specs.declared.lexeme.What.{What}
use Rattle.em_lexeme.specs.declared.lexeme.What.TheVariants.{WordStart, WordEnd}
use Rattle.em_lexeme.specs.declared.frame.Frame.{Frame}
use Rattle.em_lexeme.specs.declared.frame.Frame.TheVariants.{Single, Double, Backquotes, Argument, Substitution}
use Rattle.em_lexeme.specs.declared.no.LexNo.{LexNo}
use Rattle.em_lexeme.specs.declared.spot.Spot.{Spot}
use Rattle.em_lexeme.specs.declared.spot.Spot.TheVariants.{Duplicate}
use Rattle.em_lexeme.specs.Operators.{zero_in, zero_at}
use Rattle.em_lex.specs.declared.state.Lexer.{Lexer}
use Rattle.em_lex.specs.declared.state.Mode.{Mode}
use Rattle.em_lex.specs.declared.state.Mode.TheVariants.{Ready}
use Rattle.em_lex.specs.Steps.{lexeme, emitted, first_fault, refused, pushed, popped, begun, turned, gathered, spent}
use Rattle.em_lex.specs.Standing.{Opens, Stands}

pub decide : {A : Type 0} (P : A → Type 0) (b : Bool) (x y : A) → (b ≡ true → P x) → (b ≡ false → P y) → P (cond b x y)
decide P true x y f g = f refl
decide P false x y f g = g refl

pub either : {A : Type 0} (P : A → Type 0) (b : Bool) (x y : A) → P x → P y → P (cond b x y)
either P true x y f g = f
either P false x y f g = g

-- lexemes from a place on, one behind the other, up to another place. A word's end comes behind the
-- last begin of a word: at m or further on, and what follows them may go on with k
abbrev pub Sized : What → ℕ → ℕ → ℕ → Type 0
Sized (WordStart w) m from to = from ≡ to
Sized WordEnd m from to = (from ≡ to) × (m ≤ from)
Sized _ m from to = from < to

abbrev pub least : What → ℕ → ℕ → ℕ
least (WordStart w) at m = at + 1
least _ at m = m

abbrev pub Laid : ℕ → ℕ → List Lexeme → ℕ → ℕ → Type 0
Laid a m [] e k = (a ≤ e) × (m ≤ k)
Laid a m (l ∷ ls) e k = (a ≤ l.span.start) × Sized l.what m l.span.start l.span.end × Laid l.span.end (least l.what l.span.start m) ls e k

sized_before : (w : What) (m m' from to : ℕ) → m' ≤ m → Sized w m from to → Sized w m' from to
sized_before (WordStart w) m m' from to below h = h
sized_before WordEnd m m' from to below h = (h.0, omega arith)
sized_before _ m m' from to below h = h

least_before : (w : What) (at m m' : ℕ) → m' ≤ m → least w at m' ≤ least w at m
least_before (WordStart w) at m m' below = omega arith
least_before _ at m m' below = below

pub laid_before : (xs : List Lexeme) (a a' m m' e k : ℕ) → a' ≤ a → m' ≤ m → Laid a m xs e k → Laid a' m' xs e k
laid_before [] a a' m m' e k near below h = (omega arith, omega arith)
laid_before (l ∷ ls) a a' m m' e k near below h = (
  omega arith,
  sized_before l.what m m' l.span.start l.span.end below h.1,
  laid_before ls l.span.end l.span.end (least l.what l.span.start m) (least l.what l.span.start m') e k (omega arith) (least_before l.what l.span.start m m' below) h.2,
)

pub laid_after : (xs : List Lexeme) (a m e e' k k' : ℕ) → e ≤ e' → k ≤ k' → Laid a m xs e k → Laid a m xs e' k'
laid_after [] a m e e' k k' near below h = (omega arith, omega arith)
laid_after (l ∷ ls) a m e e' k k' near below h = (h.0, h.1, laid_after ls l.span.end (least l.what l.span.start m) e e' k k' near below h.2)

pub laid_append : (xs ys : List Lexeme) (a m e e' k k' : ℕ) → Laid a m xs e k → Laid e k ys e' k' → Laid a m (xs ++ ys) e' k'
laid_append [] ys a m e e' k k' h more = laid_before ys e a k m e' k' h.0 h.1 more
laid_append (l ∷ ls) ys a m e e' k k' h more = (h.0, h.1, laid_append ls ys l.span.end (least l.what l.span.start m) e e' k k' h.2 more)

-- what opens stands at an opener, and what isn't in a word is in no backquotes
abbrev pub SpotFits : List ℕ → Spot → Type 0
SpotFits t (Duplicate at closed) = at < length t
SpotFits t _ = Unit {0}

abbrev pub FrameFits : List ℕ → Frame → Type 0
FrameFits t (Single at) = Opens t at
FrameFits t (Double at) = Opens t at
FrameFits t (Backquotes at quoting) = ⊥
FrameFits t (Argument at quoted) = Opens t at
FrameFits t (Substitution at spot) = Opens t at × SpotFits t spot
FrameFits t _ = Unit {0}

abbrev pub ZeroFits : List ℕ → Option ℕ → Type 0
ZeroFits t o = IfSome o (λ at. at < length t)

-- outside of backquotes: what is put ends at e or before
pub record Fit (t : List ℕ) (e k : ℕ) (m : Mode) (s : Lexer) : Type 0 where
  pub frames : AllByRecursion (FrameFits t) s.frames
  pub spot : SpotFits t s.spot
  pub zero : ZeroFits t (zero_at (slice_get s.items (length s.items - 1)))
  pub fault : IfSome s.fault (Stands t)
  pub places : s.places ≡ []
  pub plain : s.backslash ≡ false
  pub mode : s.mode ≡ m
  pub items : Laid 0 0 s.items e k

pub last_of : (xs : List Lexeme) (l : Lexeme) → slice_get (xs ++ l ∷ []) (length (xs ++ l ∷ []) - 1) ≡ Some l
last_of xs l =
    let size : length (xs ++ l ∷ []) ≡ length xs + 1 = omega (arith, length-append xs (l ∷ [])) in
    let here : length (xs ++ l ∷ []) - 1 ≡ length xs = omega arith in
    subst (λ i. slice_get (xs ++ l ∷ []) i ≡ Some l) (sym here) (slice_get-get_or (xs ++ l ∷ []) (length xs) l (omega arith) ∙ ap Some (get_or-append_seam xs l [] l))

pub emit : {t : List ℕ} {e k : ℕ} {m : Mode} {s : Lexer} (from to e' k' : ℕ) (what : What) → Fit t e k m s → ZeroFits t (zero_in what from) → Laid e k (lexeme from to what ∷ []) e' k' → Fit t e' k' m (emitted s from to what)
emit {t} {e} {k} {m} {s} from to e' k' what h zero laid = record {
  frames = h.frames;
  spot = h.spot;
  zero = subst (λ o. ZeroFits t (zero_at o)) (sym (last_of s.items (lexeme from to what))) zero;
  fault = h.fault;
  places = h.places;
  plain = h.plain;
  mode = h.mode;
  items = laid_append s.items (lexeme from to what ∷ []) 0 0 e e' k k' h.items laid;
}

pub widen : {t : List ℕ} {e k : ℕ} {m : Mode} {s : Lexer} (e' k' : ℕ) → Fit t e k m s → e ≤ e' → k ≤ k' → Fit t e' k' m s
widen {t} {e} {k} {m} {s} e' k' h near below = record {
  frames = h.frames;
  spot = h.spot;
  zero = h.zero;
  fault = h.fault;
  places = h.places;
  plain = h.plain;
  mode = h.mode;
  items = laid_after s.items 0 0 e e' k k' near below h.items;
}

pub emit_start : {t : List ℕ} {e k : ℕ} {m : Mode} {s : Lexer} (at : ℕ) (w : Start) → Fit t e k m s → e ≤ at → k ≤ at + 1 → Fit t at (at + 1) m (emitted s at at (WordStart w))
emit_start at w h near below = emit at at at (at + 1) (WordStart w) h tt (near, refl, (omega arith, omega arith))

pub emit_end : {t : List ℕ} {e k : ℕ} {m : Mode} {s : Lexer} (at : ℕ) → Fit t e k m s → e ≤ at → k ≤ at → Fit t at at m (emitted s at at WordEnd)
emit_end at h near below = emit at at at at WordEnd h tt (near, (refl, below), (omega arith, below))

-- what is of one byte at least, and no descriptor
pub record Ordinary (what : What) : Type 0 where
  pub sized : (m from to : ℕ) → from < to → Sized what m from to
  pub least : (at m : ℕ) → least what at m ≡ m
  pub zero : (t : List ℕ) (at : ℕ) → ZeroFits t (zero_in what at)

pub emit_plain : {t : List ℕ} {e k : ℕ} {m : Mode} {s : Lexer} (from to : ℕ) (what : What) → Ordinary what → Fit t e k m s → e ≤ from → from < to → k ≤ to → Fit t to to m (emitted s from to what)
emit_plain {t} {e} {k} {m} {s} from to what is h near some below =
    let upper : least what from k ≤ to = subst (λ n. n ≤ to) (sym (is.least from k)) below in
    emit from to to to what h (is.zero t from) (near, is.sized k from to some, (omega arith, upper))

first_fits : (t : List ℕ) (o : Option LexNo) (f : LexNo) → IfSome o (Stands t) → Stands t f → IfSome (first_fault o f) (Stands t)
first_fits t None f h is = is
first_fits t (Some g) f h is = h

pub note : {t : List ℕ} {e k : ℕ} {m : Mode} {s : Lexer} (f : LexNo) → Fit t e k m s → Stands t f → Fit t e k m (record s { fault = first_fault s.fault f })
note {t} {e} {k} {m} {s} f h is = record {
  frames = h.frames;
  spot = h.spot;
  zero = h.zero;
  fault = first_fits t s.fault f h.fault is;
  places = h.places;
  plain = h.plain;
  mode = h.mode;
  items = h.items;
}

pub refuse : {t : List ℕ} {e k : ℕ} {m : Mode} {s : Lexer} (c : Construct) (at : ℕ) → Fit t e k m s → at < length t → Fit t e k m (refused s c at)
refuse {t} {e} {k} {m} {s} c at h is = note _ h is

-- another spot, and other things open
pub open_to : {t : List ℕ} {e k : ℕ} {m : Mode} {s : Lexer} (spot : Spot) (fs : List Frame) → Fit t e k m s → SpotFits t spot → AllByRecursion (FrameFits t) fs → Fit t e k m (record s { spot = spot; frames = fs })
open_to spot fs h at is = record {
  frames = is;
  spot = at;
  zero = h.zero;
  fault = h.fault;
  places = h.places;
  plain = h.plain;
  mode = h.mode;
  items = h.items;
}

pub at_spot : {t : List ℕ} {e k : ℕ} {m : Mode} {s : Lexer} (spot : Spot) → Fit t e k m s → SpotFits t spot → Fit t e k m (record s { spot = spot })
at_spot {t} {e} {k} {m} {s} spot h at = open_to spot s.frames h at h.frames

pub push : {t : List ℕ} {e k : ℕ} {m : Mode} {s : Lexer} (f : Frame) → Fit t e k m s → FrameFits t f → Fit t e k m (pushed f s)
push {t} {e} {k} {m} {s} f h is = open_to s.spot (f ∷ s.frames) h h.spot (is, h.frames)

-- another mode
pub change : {t : List ℕ} {e k : ℕ} {m : Mode} {s : Lexer} (mode : Mode) (at : ℕ) (text : List ℕ) → Fit t e k m s → Fit t e k mode (record s { mode = mode; start = at; text = text })
change mode at text h = record {
  frames = h.frames;
  spot = h.spot;
  zero = h.zero;
  fault = h.fault;
  places = h.places;
  plain = h.plain;
  mode = refl;
  items = h.items;
}

pub begin : {t : List ℕ} {e k : ℕ} {m : Mode} {s : Lexer} (mode : Mode) (at : ℕ) → Fit t e k m s → Fit t e k mode (begun mode at s)
begin mode at h = change mode at [] h

pub turn : {t : List ℕ} {e k : ℕ} {m : Mode} {s : Lexer} (mode : Mode) → Fit t e k m s → Fit t e k mode (turned mode s)
turn {t} {e} {k} {m} {s} mode h = change mode s.start s.text h

pub gather : {t : List ℕ} {e k : ℕ} {m : Mode} {s : Lexer} (b : ℕ) → Fit t e k m s → Fit t e k m (gathered s b)
gather {t} {e} {k} {m} {s} b h = record {
  frames = h.frames;
  spot = h.spot;
  zero = h.zero;
  fault = h.fault;
  places = h.places;
  plain = h.plain;
  mode = h.mode;
  items = h.items;
}

pub spend : {t : List ℕ} {e k : ℕ} {m : Mode} {s : Lexer} → Fit t e k m s → Fit t e k Ready (spent s)
spend {t} {e} {k} {m} {s} h = change Ready s.start [] h

pub all_drop : (t : List ℕ) (fs : List Frame) → AllByRecursion (FrameFits t) fs → AllByRecursion (FrameFits t) (drop 1 fs)
all_drop t [] h = tt
all_drop t (f ∷ fs) h = h.1

pub pop : {t : List ℕ} {e k : ℕ} {m : Mode} {s : Lexer} → Fit t e k m s → Fit t e k Ready (popped s)
pop {t} {e} {k} {m} {s} h = record {
  frames = all_drop t s.frames h.frames;
  spot = h.spot;
  zero = h.zero;
  fault = h.fault;
  places = h.places;
  plain = h.plain;
  mode = refl;
  items = h.items;
}

pub top_fits : (t : List ℕ) (fs : List Frame) → AllByRecursion (FrameFits t) fs → IfSome (slice_get fs 0) (FrameFits t)
top_fits t [] h = tt
top_fits t (f ∷ fs) h = h.0
