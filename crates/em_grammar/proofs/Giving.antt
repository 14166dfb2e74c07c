-- How a reading is put together from those of the parts.
use Rattle.std.proofs.Common.{◌≡◌, ℕ, zero, suc, Bool, true, false, ◌||◌, ◌&&◌, cond, List, [], ◌∷◌, ◌++◌, map, Option, Some, None, refl, sym, ap, subst, ◌∙◌}
use Rattle.std.proofs.lemmas.List.{map-append}
use Rattle.std.proofs.lemmas.Result.{err_from_is_err_and}
use Rattle.std.specs.Result.{IsErr, IsErrAnd}
use Rattle.std.specs.Prelude.{Result}
use Rattle.em_grammar.specs.Production.{Production, empty, one, this, ◌⨾◌, ◌∣◌, many, more, nested, inner, last, balanced, refused, is_among, Lang, Times, nothing, depth, Front}
use Rattle.em_grammar.specs.Machine.{Grammar, first_set, nullable, Stack, Next, stops, step, step_below, steps, may_end, done, fault, after, run}
use Rattle.em_grammar.specs.Checks.{firm, apart}
use Rattle.em_grammar.specs.Gives.{begins_with, Spells, all, parted, Reads, Faults, Turns, Passes, Moves, Lead, on, off, free, lead_off, lead_of, Gives}
use Rattle.em_grammar.proofs.Reading.{both, Behind, behind, before_other, times_behind, apart_at, among-append, in_second}

and_assoc : (a b c : Bool) → ((a && b) && c) ≡ (a && (b && c))
and_assoc true b c = refl
and_assoc false b c = refl

cond_same : {A : Type 0} (b : Bool) (x y u v : A) → x ≡ u → y ≡ v → cond b x y ≡ cond b u v
cond_same true x y u v p q = p
cond_same false x y u v p q = q

picked : {A : Type 0} (b : Bool) (x y : A) → b ≡ true → cond b x y ≡ x
picked true x y e = refl
picked false x y e = absurd cc

not_picked : {A : Type 0} (b : Bool) (x y : A) → b ≡ false → cond b x y ≡ y
not_picked true x y e = absurd cc
not_picked false x y e = refl

neither : (a b : Bool) → (a || b) ≡ false → (a ≡ false) × (b ≡ false)
neither true b e = absurd cc
neither false b e = (refl, e)

module _ {T : Type 0} (G : Grammar T) where
  -- patterns
  nothing_deeper : (K : Lang T) (ts : List T) → ⊥ → Behind (λ L us. ⊥) K ts
  nothing_deeper K ts h = absurd h

  abbrev P : Production T → Lang T → Lang T
  P = Front G.class nothing 0 (λ K us. ⊥)

  -- a p in front, whatever follows it
  pub spell_front : (p q r : Production T) (ts us rest : List T) → ((vs : List T) → Spells G q vs us → Spells G r vs rest) → Spells G (p ⨾ q) ts us → Spells G (p ⨾ r) ts rest
  spell_front p q r ts us rest k h = before_other (P p) (P q (λ vs. vs ≡ us)) (P r (λ vs. vs ≡ rest)) ts (behind G.class nothing 0 (λ K us. ⊥) nothing_deeper p (P q (λ vs. vs ≡ us)) ts h) k

  pub spell_then : (p q : Production T) (ts us rest : List T) → Spells G p ts us → Spells G q us rest → Spells G (p ⨾ q) ts rest
  spell_then p q ts us rest a b = before_other (P p) (λ vs. vs ≡ us) (P q (λ vs. vs ≡ rest)) ts (behind G.class nothing 0 (λ K us. ⊥) nothing_deeper p (λ vs. vs ≡ us) ts a) (λ vs e. rw e b)

  -- the last of some parts goes on
  pub spell_all_last : (ps : List (Production T)) (p q : Production T) (ts us rest : List T) → ((vs : List T) → Spells G p vs us → Spells G q vs rest) → Spells G (all (ps ++ p ∷ [])) ts us → Spells G (all (ps ++ q ∷ [])) ts rest
  spell_all_last [] p q ts us rest k h = k ts h
  spell_all_last (r ∷ ps) p q ts us rest k h = spell_front r (all (ps ++ p ∷ [])) (all (ps ++ q ∷ [])) ts us rest (λ vs l. spell_all_last ps p q vs us rest k l) h

  -- the parts behind some others are put together
  pub spell_all_tail : (ps qs : List (Production T)) (q : Production T) (ts us rest : List T) → ((vs : List T) → Spells G (all qs) vs us → Spells G q vs rest) → Spells G (all (ps ++ qs)) ts us → Spells G (all (ps ++ q ∷ [])) ts rest
  spell_all_tail [] qs q ts us rest k h = k ts h
  spell_all_tail (r ∷ ps) qs q ts us rest k h = spell_front r (all (ps ++ qs)) (all (ps ++ q ∷ [])) ts us rest (λ vs l. spell_all_tail ps qs q vs us rest k l) h

  pub spell_all_more : (ps : List (Production T)) (p : Production T) (ts us rest : List T) → Spells G (all ps) ts us → Spells G p us rest → Spells G (all (ps ++ p ∷ [])) ts rest
  spell_all_more [] p ts us rest a b = spell_then p empty ts rest rest (rw a b) refl
  spell_all_more (q ∷ ps) p ts us rest a b = spell_front q (all ps) (all (ps ++ p ∷ [])) ts us rest (λ vs l. spell_all_more ps p vs us rest l b) a

  times_end : (f : Lang T → Lang T) (n : ℕ) (K : Lang T) → Times n f (f K) ≡ f (Times n f K)
  times_end f zero K = refl
  times_end f (suc n) K = ap f (times_end f n K)

  pub spell_many_more : (e : Production T) (ts us rest : List T) → Spells G (many e) ts us → Spells G e us rest → Spells G (many e) ts rest
  spell_many_more e ts us rest a b =
      let K : Lang T = λ vs. vs ≡ rest in (
        suc a.0,
        subst (λ (L : Lang T). L ts) (times_end (P e) a.0 K)
            (before_other (Times a.0 (P e)) (λ vs. vs ≡ us) (P e K) ts (times_behind G.class nothing 0 (λ K us. ⊥) (P e) (λ K ts h. behind G.class nothing 0 (λ K us. ⊥) nothing_deeper e K ts h) a.0 (λ vs. vs ≡ us) ts a.1) (λ vs e. rw e b)),
      )

  -- the machine, part by part
  run_then : (left : ℕ) (e f : Production T) (S : Stack T) (ts : List T) → run G ((left, e ⨾ f) ∷ S) ts ≡ run G ((left, e) ∷ (left, f) ∷ S) ts
  unfolding run
  run_then left e f S [] = ap (λ b. cond b done (fault 0 [])) (and_assoc (nullable e) (nullable f) (may_end S))
  run_then left e f S (t ∷ ts) = refl

  run_left : (left : ℕ) (e f : Production T) (S : Stack T) (ts : List T) → begins_with G ts (first_set G.list_first e) ≡ true → run G ((left, e ∣ f) ∷ S) ts ≡ run G ((left, e) ∷ S) ts
  unfolding run
  run_left left e f S [] b = absurd cc
  run_left left e f S (t ∷ ts) b = rw b refl

  run_right : (left : ℕ) (e f : Production T) (S : Stack T) (ts : List T) → nullable e ≡ false → begins_with G ts (first_set G.list_first e) ≡ false → run G ((left, e ∣ f) ∷ S) ts ≡ run G ((left, f) ∷ S) ts
  unfolding run
  run_right left e f S [] n b = rw n refl
  run_right left e f S (t ∷ ts) n b = rw b refl

  run_empty : (left : ℕ) (S : Stack T) (ts : List T) → run G ((left, empty) ∷ S) ts ≡ run G S ts
  unfolding run
  run_empty left S [] = refl
  run_empty left S (t ∷ ts) = refl

  run_many_stop : (left : ℕ) (e : Production T) (S : Stack T) (ts : List T) → begins_with G ts (first_set G.list_first e) ≡ false → run G ((left, many e) ∷ S) ts ≡ run G S ts
  unfolding run
  run_many_stop left e S [] b = refl
  run_many_stop left e S (t ∷ ts) b = rw b refl

  run_more_stop : (left : ℕ) (a s : Production T) (S : Stack T) (ts : List T) → begins_with G ts (first_set G.list_first s) ≡ false → run G ((left, more a s) ∷ S) ts ≡ run G S ts
  unfolding run
  run_more_stop left a s S [] b = refl
  run_more_stop left a s S (t ∷ ts) b = rw b refl

  module _ (some : firm G.list ≡ true) where
    -- what takes a token doesn't look at what follows
    firm_skip : (left : ℕ) → ((t : T) (S : Stack T) (x y : Next T) → step_below G left t S x ≡ step_below G left t S y) → (e : Production T) → firm e ≡ true → (t : T) (S : Stack T) (x y : Next T) →
        step G left (step_below G left) e t S x ≡ step G left (step_below G left) e t S y
    firm_skip left hI empty m t S x y = absurd cc
    firm_skip left hI (one s) m t S x y = refl
    firm_skip left hI (this c u) m t S x y = refl
    firm_skip left hI (e ⨾ f) m t S x y = way (firm e) refl m (λ k. firm_skip left hI e k t ((left, f) ∷ S) (step G left (step_below G left) f t S x) (step G left (step_below G left) f t S y)) (λ n. firm_skip left hI f n t S x y)
      where
        way : (b : Bool) → firm e ≡ b → (b || firm f) ≡ true →
            (firm e ≡ true → step G left (step_below G left) e t ((left, f) ∷ S) (step G left (step_below G left) f t S x) ≡ step G left (step_below G left) e t ((left, f) ∷ S) (step G left (step_below G left) f t S y)) →
            (firm f ≡ true → step G left (step_below G left) f t S x ≡ step G left (step_below G left) f t S y) →
            step G left (step_below G left) (e ⨾ f) t S x ≡ step G left (step_below G left) (e ⨾ f) t S y
        way true k n he hf = he k
        way false k n he hf = ap (λ z. step G left (step_below G left) e t ((left, f) ∷ S) z) (hf n)
    firm_skip left hI (e ∣ f) m t S x y =
        let p = both (firm e) (firm f) m in
        cond_same (is_among (G.class t) (first_set G.list_first e)) _ _ _ _ (firm_skip left hI e p.0 t S x y) (firm_skip left hI f p.1 t S x y)
    firm_skip left hI (many e) m t S x y = absurd cc
    firm_skip left hI (more a s) m t S x y = absurd cc
    firm_skip left hI (nested s e) m t S x y = refl
    firm_skip left hI (balanced k o e c) m t S x y = absurd cc
    firm_skip left hI inner m t S x y = hI t S x y
    firm_skip left hI (last s) m t S x y = absurd cc
    firm_skip left hI (refused s c) m t S x y = refl

    skip_below : (left : ℕ) (t : T) (S : Stack T) (x y : Next T) → step_below G left t S x ≡ step_below G left t S y
    unfolding step_below
    skip_below zero t S x y = refl
    skip_below (suc n) t S x y = firm_skip n (skip_below n) G.list some t S x y

    run_many_on : (left : ℕ) (e : Production T) (S : Stack T) (ts : List T) → firm e ≡ true → begins_with G ts (first_set G.list_first e) ≡ true → run G ((left, many e) ∷ S) ts ≡ run G ((left, e) ∷ (left, many e) ∷ S) ts
    unfolding run
    run_many_on left e S [] m b = absurd cc
    run_many_on left e S (t ∷ ts) m b = ap (λ z. after (λ S'. run G S' ts) z (t ∷ ts)) (picked (is_among (G.class t) (first_set G.list_first e)) _ _ b ∙ firm_skip left (skip_below left) e m t ((left, many e) ∷ S) (stops 0) (steps G ((left, many e) ∷ S) t))

    run_more_on : (left : ℕ) (a s : Production T) (S : Stack T) (ts : List T) → firm s ≡ true → begins_with G ts (first_set G.list_first s) ≡ true → run G ((left, more a s) ∷ S) ts ≡ run G ((left, s) ∷ (left, (a ⨾ more a s) ∣ empty) ∷ S) ts
    unfolding run
    run_more_on left a s S [] m b = absurd cc
    run_more_on left a s S (t ∷ ts) m b = ap (λ z. after (λ S'. run G S' ts) z (t ∷ ts)) (picked (is_among (G.class t) (first_set G.list_first s)) _ _ b ∙ firm_skip left (skip_below left) s m t ((left, (a ⨾ more a s) ∣ empty) ∷ S) (stops 0) (steps G ((left, (a ⨾ more a s) ∣ empty) ∷ S) t))

  run_inner : (n : ℕ) (S : Stack T) (ts : List T) → nullable G.list ≡ false → run G ((suc n, inner) ∷ S) ts ≡ run G ((n, G.list) ∷ S) ts
  unfolding run step_below
  run_inner n S [] m = rw m refl
  run_inner n S (t ∷ ts) m = refl

  -- readings put together
  pub then_on : {left : ℕ} {e f : Production T} {ts : List T} {p q : Production T} {us rest : List T} → Reads G left e ts p us → Reads G left f us q rest → Reads G left (e ⨾ f) ts (p ⨾ q) rest
  then_on {left = left} {e = e} {f = f} {ts = ts} {p = p} {q = q} {us = us} {rest = rest} a b = record {
    spells = spell_then p q ts us rest a.spells b.spells;
    goes = λ S. run_then left e f S ts ∙ a.goes ((left, f) ∷ S) ∙ b.goes S;
  }

  -- a fault in the first, behind it
  pub then_exit : (left : ℕ) (e f : Production T) (ts : List T) (o : Option (ℕ × List T)) → Gives G left e ts (lead_off o) → Gives G left (e ⨾ f) ts (lead_off o)
  then_exit left e f ts o a = at o a
    where
      at : (o : Option (ℕ × List T)) → Gives G left e ts (lead_off o) → Gives G left (e ⨾ f) ts (lead_off o)
      at None a = tt
      at (Some x) a = record { stops = λ S. run_then left e f S ts ∙ a.stops ((left, f) ∷ S) }

  pub then_off : {left : ℕ} {e : Production T} {ts : List T} {p : Production T} {us : List T} (f : Production T) → Reads G left e ts p us → (o : Option (ℕ × List T)) → Gives G left f us (lead_off o) → Gives G left (e ⨾ f) ts (lead_off o)
  then_off {left = left} {e = e} {ts = ts} {p = p} {us = us} f r o a = at r o a
    where
      at : Reads G left e ts p us → (o : Option (ℕ × List T)) → Gives G left f us (lead_off o) → Gives G left (e ⨾ f) ts (lead_off o)
      at r None a = tt
      at r (Some x) a = record { stops = λ S. run_then left e f S ts ∙ r.goes ((left, f) ∷ S) ∙ a.stops S }

  -- the exit of a `?`
  pub stopped : {X E : Type 0} (left : ℕ) (e : Production T) (ts : List T) (x : E) (view : X → Production T × List T) (why : E → Option (ℕ × List T)) (r : Result X E) → IsErr r × IsErrAnd r (λ d. d ≡ x) → Gives G left e ts (lead_off (why x)) → Gives G left e ts (lead_of view why r)
  stopped left e ts x view why r is h = let p = err_from_is_err_and r is.1 in rw (p.1, p.2) h

  pub left_on : {left : ℕ} {e f : Production T} {ts : List T} {p : Production T} {us : List T} → begins_with G ts (first_set G.list_first e) ≡ true → Reads G left e ts p us → Reads G left (e ∣ f) ts p us
  left_on {left = left} {e = e} {f = f} {ts = ts} b h = record { spells = h.spells; goes = λ S. run_left left e f S ts b ∙ h.goes S }

  pub right_on : {left : ℕ} {e f : Production T} {ts : List T} {p : Production T} {us : List T} → nullable e ≡ false → begins_with G ts (first_set G.list_first e) ≡ false → Reads G left f ts p us → Reads G left (e ∣ f) ts p us
  right_on {left = left} {e = e} {f = f} {ts = ts} n b h = record { spells = h.spells; goes = λ S. run_right left e f S ts n b ∙ h.goes S }

  pub gives_left : (left : ℕ) (e f : Production T) (ts : List T) (L : Lead T) → begins_with G ts (first_set G.list_first e) ≡ true → Gives G left e ts L → Gives G left (e ∣ f) ts L
  gives_left left e f ts (on p rest) b h = record { spells = h.spells; goes = λ S. run_left left e f S ts b ∙ h.goes S }
  gives_left left e f ts (off c rest) b h = record { stops = λ S. run_left left e f S ts b ∙ h.stops S }
  gives_left left e f ts free b h = tt

  pub gives_right : (left : ℕ) (e f : Production T) (ts : List T) (L : Lead T) → nullable e ≡ false → begins_with G ts (first_set G.list_first e) ≡ false → Gives G left f ts L → Gives G left (e ∣ f) ts L
  gives_right left e f ts (on p rest) n b h = record { spells = h.spells; goes = λ S. run_right left e f S ts n b ∙ h.goes S }
  gives_right left e f ts (off c rest) n b h = record { stops = λ S. run_right left e f S ts n b ∙ h.stops S }
  gives_right left e f ts free n b h = tt

  pub reads_empty : (left : ℕ) (ts : List T) → Reads G left empty ts empty ts
  reads_empty left ts = record { spells = refl; goes = λ S. run_empty left S ts }

  run_last : (left : ℕ) (s : List ℕ) (S : Stack T) (ts : List T) → begins_with G ts s ≡ false → run G ((left, last s) ∷ S) ts ≡ run G S ts
  unfolding run
  run_last left s S [] b = refl
  run_last left s S (t ∷ ts) b = rw b refl

  pub reads_last : (left : ℕ) (s : List ℕ) (ts : List T) → begins_with G ts s ≡ false → Reads G left (last s) ts empty ts
  reads_last left s ts b = record { spells = refl; goes = λ S. run_last left s S ts b }

  pub gives_inner : (n : ℕ) (ts : List T) (L : Lead T) → nullable G.list ≡ false → Gives G n G.list ts L → Gives G (suc n) inner ts L
  gives_inner n ts (on p rest) m h = record { spells = h.spells; goes = λ S. run_inner n S ts m ∙ h.goes S }
  gives_inner n ts (off c rest) m h = record { stops = λ S. run_inner n S ts m ∙ h.stops S }
  gives_inner n ts free m h = tt

  -- loops
  pub turn : {left : ℕ} {e f : Production T} {ts : List T} {p : Production T} {us : List T} → Reads G left e ts p us → Turns G left (e ⨾ f) ts p f us
  turn {left = left} {e = e} {f = f} {ts = ts} r = record { spells = r.spells; goes = λ S. run_then left e f S ts ∙ r.goes ((left, f) ∷ S) }

  pub begun : (left : ℕ) (e : Production T) (ts : List T) → Turns G left e ts empty e ts
  begun left e ts = record { spells = refl; goes = λ S. refl }

  pub end_many : {left : ℕ} {e a : Production T} {ts : List T} {p : Production T} {us : List T} → Turns G left e ts p (many a) us → begins_with G us (first_set G.list_first a) ≡ false → Reads G left e ts p us
  end_many {left = left} {a = a} {us = us} t b = record { spells = t.spells; goes = λ S. t.goes S ∙ run_many_stop left a S us b }

  pub end_more : {left : ℕ} {e a s : Production T} {ts : List T} {p : Production T} {us : List T} → Turns G left e ts p (more a s) us → begins_with G us (first_set G.list_first s) ≡ false → Reads G left e ts p us
  end_more {left = left} {a = a} {s = s} {us = us} t b = record { spells = t.spells; goes = λ S. t.goes S ∙ run_more_stop left a s S us b }

  pub spell_parted_more : (sep : Production T) (ps : List (Production T)) (q : Production T) (ts us rest : List T) → Spells G (parted sep ps) ts us → Spells G (sep ⨾ q) us rest → Spells G (parted sep (ps ++ q ∷ [])) ts rest
  spell_parted_more sep [] q ts us rest a b = absurd (let u = a.1 in cc)
  spell_parted_more sep (p ∷ ps) q ts us rest a b =
      spell_front p (all (map (λ r. sep ⨾ r) ps)) (all (map (λ r. sep ⨾ r) (ps ++ q ∷ []))) ts us rest
      (λ vs l. rw (map-append (λ r. sep ⨾ r) ps (q ∷ [])) (spell_all_more (map (λ r. sep ⨾ r) ps) (sep ⨾ q) vs us rest l b)) a

  module _ (some : firm G.list ≡ true) where
    pub more_many : {left : ℕ} {e a : Production T} {ts : List T} {p : Production T} {us : List T} {q : Production T} {rest : List T} → Turns G left e ts p (many a) us → firm a ≡ true → begins_with G us (first_set G.list_first a) ≡ true → Reads G left a us q rest → (p' : Production T) → Spells G p' ts rest →
        Turns G left e ts p' (many a) rest
    more_many {left = left} {a = a} {us = us} t m b h p' sp = record { spells = sp; goes = λ S. t.goes S ∙ run_many_on some left a S us m b ∙ h.goes ((left, many a) ∷ S) }

    pub exit_many : {left : ℕ} {e a : Production T} {ts : List T} {p : Production T} {us : List T} → Turns G left e ts p (many a) us → firm a ≡ true → begins_with G us (first_set G.list_first a) ≡ true → (o : Option (ℕ × List T)) → Gives G left a us (lead_off o) → Gives G left e ts (lead_off o)
    exit_many {left = left} {e = e} {a = a} {ts = ts} {p = p} {us = us} t m b o h = at t m b o h
      where
        at : Turns G left e ts p (many a) us → firm a ≡ true → begins_with G us (first_set G.list_first a) ≡ true → (o : Option (ℕ × List T)) → Gives G left a us (lead_off o) → Gives G left e ts (lead_off o)
        at t m b None h = tt
        at t m b (Some x) h = record { stops = λ S. t.goes S ∙ run_many_on some left a S us m b ∙ h.stops ((left, many a) ∷ S) }

    -- a separator, and one more or none
    pub more_row : {left : ℕ} {e a s : Production T} {ts : List T} {p : Production T} {us : List T} {x : Production T} {vs : List T} {q : Production T} {rest : List T} → Turns G left e ts p (more a s) us → firm s ≡ true → begins_with G us (first_set G.list_first s) ≡ true → Reads G left s us x vs →
        begins_with G vs (first_set G.list_first (a ⨾ more a s)) ≡ true → Reads G left a vs q rest → (p' : Production T) → Spells G p' ts rest → Turns G left e ts p' (more a s) rest
    more_row {left = left} {a = a} {s = s} {us = us} {vs = vs} t m b y c h p' sp = record {
      spells = sp;
      goes = λ S. t.goes S ∙ run_more_on some left a s S us m b ∙ y.goes ((left, (a ⨾ more a s) ∣ empty) ∷ S) ∙ run_left left (a ⨾ more a s) empty S vs c ∙ run_then left a (more a s) S vs ∙ h.goes ((left, more a s) ∷ S);
    }

    pub last_row : {left : ℕ} {e a s : Production T} {ts : List T} {p : Production T} {us : List T} {x : Production T} {vs : List T} → Turns G left e ts p (more a s) us → firm s ≡ true → begins_with G us (first_set G.list_first s) ≡ true → Reads G left s us x vs →
        nullable (a ⨾ more a s) ≡ false → begins_with G vs (first_set G.list_first (a ⨾ more a s)) ≡ false → (p' : Production T) → Spells G p' ts vs → Reads G left e ts p' vs
    last_row {left = left} {a = a} {s = s} {us = us} {vs = vs} t m b y n c p' sp = record {
      spells = sp;
      goes = λ S. t.goes S ∙ run_more_on some left a s S us m b ∙ y.goes ((left, (a ⨾ more a s) ∣ empty) ∷ S) ∙ run_right left (a ⨾ more a s) empty S vs n c ∙ run_empty left S vs;
    }

    pub exit_sep : {left : ℕ} {e a s : Production T} {ts : List T} {p : Production T} {us : List T} → Turns G left e ts p (more a s) us → firm s ≡ true → begins_with G us (first_set G.list_first s) ≡ true → (o : Option (ℕ × List T)) → Gives G left s us (lead_off o) → Gives G left e ts (lead_off o)
    exit_sep {left = left} {e = e} {a = a} {s = s} {ts = ts} {p = p} {us = us} t m b o h = at t m b o h
      where
        at : Turns G left e ts p (more a s) us → firm s ≡ true → begins_with G us (first_set G.list_first s) ≡ true → (o : Option (ℕ × List T)) → Gives G left s us (lead_off o) → Gives G left e ts (lead_off o)
        at t m b None h = tt
        at t m b (Some x) h = record { stops = λ S. t.goes S ∙ run_more_on some left a s S us m b ∙ h.stops ((left, (a ⨾ more a s) ∣ empty) ∷ S) }

    pub exit_row : {left : ℕ} {e a s : Production T} {ts : List T} {p : Production T} {us : List T} {x : Production T} {vs : List T} → Turns G left e ts p (more a s) us → firm s ≡ true → begins_with G us (first_set G.list_first s) ≡ true → Reads G left s us x vs →
        begins_with G vs (first_set G.list_first (a ⨾ more a s)) ≡ true → (o : Option (ℕ × List T)) → Gives G left a vs (lead_off o) → Gives G left e ts (lead_off o)
    exit_row {left = left} {e = e} {a = a} {s = s} {ts = ts} {p = p} {us = us} {x = x} {vs = vs} t m b y c o h = at t m b y c o h
      where
        at : Turns G left e ts p (more a s) us → firm s ≡ true → begins_with G us (first_set G.list_first s) ≡ true → Reads G left s us x vs → begins_with G vs (first_set G.list_first (a ⨾ more a s)) ≡ true → (o : Option (ℕ × List T)) → Gives G left a vs (lead_off o) → Gives G left e ts (lead_off o)
        at t m b y c None h = tt
        at t m b y c (Some z) h = record { stops = λ S. t.goes S ∙ run_more_on some left a s S us m b ∙ y.goes ((left, (a ⨾ more a s) ∣ empty) ∷ S) ∙ run_left left (a ⨾ more a s) empty S vs c ∙ run_then left a (more a s) S vs ∙ h.stops ((left, more a s) ∷ S) }

  -- one token
  pub reads_one : (left : ℕ) (s : List ℕ) (t : T) (ts : List T) → is_among (G.class t) s ≡ true → Reads G left (one s) (t ∷ ts) (this s t) ts
  unfolding run
  reads_one left s t ts b = record { spells = ((b, refl), refl); goes = λ S. rw b refl }

  pub reads_key : (left : ℕ) (s : List ℕ) (t : T) (ts : List T) → is_among (G.class t) s ≡ true → Reads G left (one s) (t ∷ ts) (one s) ts
  unfolding run
  reads_key left s t ts b = record { spells = (b, refl); goes = λ S. rw b refl }

  pub no_one : (left : ℕ) (s : List ℕ) (ts : List T) → begins_with G ts s ≡ false → Faults G left (one s) ts 0 ts
  unfolding run
  no_one left s [] b = record { stops = λ S. refl }
  no_one left s (t ∷ ts) b = record { stops = λ S. rw b refl }

  pub is_refused : (left : ℕ) (s : List ℕ) (c : ℕ) (ts : List T) → begins_with G ts s ≡ true → Faults G left (refused s c) ts c ts
  unfolding run
  is_refused left s c [] b = absurd cc
  is_refused left s c (t ∷ ts) b = record { stops = λ S. rw b refl }

  pub not_refused : (left : ℕ) (s : List ℕ) (c : ℕ) (ts : List T) → begins_with G ts s ≡ false → Faults G left (refused s c) ts 0 ts
  unfolding run
  not_refused left s c [] b = record { stops = λ S. refl }
  not_refused left s c (t ∷ ts) b = record { stops = λ S. rw b refl }

  -- a token that opens a level
  pub opens_level : (n : ℕ) (s : List ℕ) (e : Production T) (t : T) (ts : List T) → is_among (G.class t) s ≡ true → Turns G (suc n) (nested s e) (t ∷ ts) (one s) e ts
  unfolding run
  opens_level n s e t ts b = record { spells = (b, refl); goes = λ S. rw b refl }

  -- the same, and which token it was
  pub opens_level_this : (n : ℕ) (s : List ℕ) (e : Production T) (t : T) (ts : List T) → is_among (G.class t) s ≡ true → Turns G (suc n) (nested s e) (t ∷ ts) (this s t) e ts
  unfolding run
  opens_level_this n s e t ts b = record { spells = ((b, refl), refl); goes = λ S. rw b refl }

  pub too_deep : (s : List ℕ) (e : Production T) (ts : List T) → begins_with G ts s ≡ true → Faults G 0 (nested s e) ts depth ts
  unfolding run
  too_deep s e [] b = absurd cc
  too_deep s e (t ∷ ts) b = record { stops = λ S. rw b refl }

  pub no_level : (left : ℕ) (s : List ℕ) (e : Production T) (ts : List T) → begins_with G ts s ≡ false → Faults G left (nested s e) ts 0 ts
  unfolding run
  no_level left s e [] b = record { stops = λ S. refl }
  no_level left s e (t ∷ ts) b = record { stops = λ S. rw b refl }

  -- what goes on behind a turn
  pub turn_on : {left : ℕ} {e f : Production T} {ts : List T} {p q : Production T} {us rest : List T} → Turns G left e ts p f us → Reads G left f us q rest → Reads G left e ts (p ⨾ q) rest
  turn_on {ts = ts} {p = p} {q = q} {us = us} {rest = rest} a b = record { spells = spell_then p q ts us rest a.spells b.spells; goes = λ S. a.goes S ∙ b.goes S }

  pub turn_off : {left : ℕ} {e f : Production T} {ts : List T} {p : Production T} {us : List T} → Turns G left e ts p f us → (o : Option (ℕ × List T)) → Gives G left f us (lead_off o) → Gives G left e ts (lead_off o)
  turn_off {left = left} {e = e} {f = f} {ts = ts} {p = p} {us = us} t o h = at t o h
    where
      at : Turns G left e ts p f us → (o : Option (ℕ × List T)) → Gives G left f us (lead_off o) → Gives G left e ts (lead_off o)
      at t None h = tt
      at t (Some x) h = record { stops = λ S. t.goes S ∙ h.stops S }

  -- brackets in balance
  run_bracket : (left k : ℕ) (o : List ℕ) (e : Production T) (c : List ℕ) (S : Stack T) (t : T) (ts : List T) → is_among (G.class t) o ≡ true → run G ((left, balanced k o e c) ∷ S) (t ∷ ts) ≡ run G ((left, balanced (suc k) o e c) ∷ S) ts
  unfolding run
  run_bracket left k o e c S t ts b = rw b refl

  run_close : (left k : ℕ) (o : List ℕ) (e : Production T) (c : List ℕ) (S : Stack T) (t : T) (ts : List T) → apart o (first_set G.list_first e ++ c) ≡ true → apart (first_set G.list_first e) c ≡ true → is_among (G.class t) c ≡ true → run G ((left, balanced (suc k) o e c) ∷ S) (t ∷ ts) ≡ run G ((left, balanced k o e c) ∷ S) ts
  unfolding run
  run_close left k o e c S t ts p q b = rw (apart_at (G.class t) o (first_set G.list_first e ++ c) p (in_second (G.class t) (first_set G.list_first e) c b), apart_at (G.class t) (first_set G.list_first e) c q b, b) refl

  run_balanced_end : (left : ℕ) (o : List ℕ) (e : Production T) (c : List ℕ) (S : Stack T) (ts : List T) → begins_with G ts (o ++ first_set G.list_first e) ≡ false → run G ((left, balanced 0 o e c) ∷ S) ts ≡ run G S ts
  unfolding run
  run_balanced_end left o e c S [] b = refl
  run_balanced_end left o e c S (t ∷ ts) b = let p = neither (is_among (G.class t) o) (is_among (G.class t) (first_set G.list_first e)) (sym (among-append (G.class t) o (first_set G.list_first e)) ∙ b) in rw (p.0, p.1) refl

  -- a bracket is open, and nothing of it goes on
  pub open_bracket : (left k : ℕ) (o : List ℕ) (e : Production T) (c : List ℕ) (g : Production T) (ts : List T) → begins_with G ts (o ++ (first_set G.list_first e ++ c)) ≡ false → Faults G left (balanced (suc k) o e c ⨾ g) ts 0 ts
  unfolding run
  open_bracket left k o e c g [] b = record { stops = λ S. refl }
  open_bracket left k o e c g (t ∷ ts) b =
      let p = neither (is_among (G.class t) o) (is_among (G.class t) (first_set G.list_first e ++ c)) (sym (among-append (G.class t) o (first_set G.list_first e ++ c)) ∙ b) in
      let q = neither (is_among (G.class t) (first_set G.list_first e)) (is_among (G.class t) c) (sym (among-append (G.class t) (first_set G.list_first e) c) ∙ p.1) in
      record { stops = λ S. rw (p.0, q.0, q.1) refl }

  -- a loop with something behind it
  pub end_many_then : {left : ℕ} {e a g : Production T} {ts : List T} {p : Production T} {us : List T} {q : Production T} {rest : List T} → Turns G left e ts p (many a ⨾ g) us → begins_with G us (first_set G.list_first a) ≡ false → Reads G left g us q rest → Reads G left e ts (p ⨾ q) rest
  end_many_then {left = left} {a = a} {g = g} {ts = ts} {p = p} {us = us} {q = q} {rest = rest} t b h = record {
    spells = spell_then p q ts us rest t.spells h.spells;
    goes = λ S. t.goes S ∙ run_then left (many a) g S us ∙ run_many_stop left a ((left, g) ∷ S) us b ∙ h.goes S;
  }

  module _ (some : firm G.list ≡ true) where
    pub more_many_then : {left : ℕ} {e a g : Production T} {ts : List T} {p : Production T} {us : List T} {q : Production T} {rest : List T} → Turns G left e ts p (many a ⨾ g) us → firm a ≡ true → begins_with G us (first_set G.list_first a) ≡ true → Reads G left a us q rest → (p' : Production T) → Spells G p' ts rest →
        Turns G left e ts p' (many a ⨾ g) rest
    more_many_then {left = left} {a = a} {g = g} {us = us} {rest = rest} t m b h p' sp = record {
      spells = sp;
      goes = λ S. t.goes S ∙ run_then left (many a) g S us ∙ run_many_on some left a ((left, g) ∷ S) us m b ∙ h.goes ((left, many a) ∷ (left, g) ∷ S) ∙ sym (run_then left (many a) g S rest);
    }

    pub exit_many_then : {left : ℕ} {e a g : Production T} {ts : List T} {p : Production T} {us : List T} → Turns G left e ts p (many a ⨾ g) us → firm a ≡ true → begins_with G us (first_set G.list_first a) ≡ true → (o : Option (ℕ × List T)) → Gives G left a us (lead_off o) → Gives G left e ts (lead_off o)
    exit_many_then {left = left} {e = e} {a = a} {g = g} {ts = ts} {p = p} {us = us} t m b o h = at t m b o h
      where
        at : Turns G left e ts p (many a ⨾ g) us → firm a ≡ true → begins_with G us (first_set G.list_first a) ≡ true → (o : Option (ℕ × List T)) → Gives G left a us (lead_off o) → Gives G left e ts (lead_off o)
        at t m b None h = tt
        at t m b (Some x) h = record { stops = λ S. t.goes S ∙ run_then left (many a) g S us ∙ run_many_on some left a ((left, g) ∷ S) us m b ∙ h.stops ((left, many a) ∷ (left, g) ∷ S) }

    -- one more in brackets
    run_balanced_item : (left k : ℕ) (o : List ℕ) (e : Production T) (c : List ℕ) (S : Stack T) (ts : List T) → firm e ≡ true → apart o (first_set G.list_first e) ≡ true → begins_with G ts (first_set G.list_first e) ≡ true → run G ((left, balanced k o e c) ∷ S) ts ≡ run G ((left, e) ∷ (left, balanced k o e c) ∷ S) ts
    unfolding run
    run_balanced_item left k o e c S [] m a b = absurd cc
    run_balanced_item left k o e c S (t ∷ ts) m a b =
        ap (λ z. after (λ S'. run G S' ts) z (t ∷ ts))
        (not_picked (is_among (G.class t) o) _ _ (apart_at (G.class t) o (first_set G.list_first e) a b) ∙ picked (is_among (G.class t) (first_set G.list_first e)) _ _ b ∙ firm_skip some left (skip_below some left) e m t ((left, balanced k o e c) ∷ S) (stops 0) (steps G ((left, balanced k o e c) ∷ S) t))

    pub more_balanced : {left : ℕ} {e a g : Production T} {k : ℕ} {o c : List ℕ} {ts : List T} {p : Production T} {us : List T} {q : Production T} {rest : List T} → Turns G left e ts p (balanced k o a c ⨾ g) us → firm a ≡ true → apart o (first_set G.list_first a) ≡ true → begins_with G us (first_set G.list_first a) ≡ true → Reads G left a us q rest →
        (p' : Production T) → Spells G p' ts rest → Turns G left e ts p' (balanced k o a c ⨾ g) rest
    more_balanced {left = left} {a = a} {g = g} {k = k} {o = o} {c = c} {us = us} {rest = rest} t m d b h p' sp = record {
      spells = sp;
      goes = λ S. t.goes S ∙ run_then left (balanced k o a c) g S us ∙ run_balanced_item left k o a c ((left, g) ∷ S) us m d b ∙ h.goes ((left, balanced k o a c) ∷ (left, g) ∷ S) ∙ sym (run_then left (balanced k o a c) g S rest);
    }

    pub exit_balanced : {left : ℕ} {e a g : Production T} {k : ℕ} {o c : List ℕ} {ts : List T} {p : Production T} {us : List T} → Turns G left e ts p (balanced k o a c ⨾ g) us → firm a ≡ true → apart o (first_set G.list_first a) ≡ true → begins_with G us (first_set G.list_first a) ≡ true → (x : Option (ℕ × List T)) → Gives G left a us (lead_off x) → Gives G left e ts (lead_off x)
    exit_balanced {left = left} {e = e} {a = a} {g = g} {k = k} {o = o} {c = c} {ts = ts} {p = p} {us = us} t m d b x h = at t m d b x h
      where
        at : Turns G left e ts p (balanced k o a c ⨾ g) us → firm a ≡ true → apart o (first_set G.list_first a) ≡ true → begins_with G us (first_set G.list_first a) ≡ true → (x : Option (ℕ × List T)) → Gives G left a us (lead_off x) → Gives G left e ts (lead_off x)
        at t m d b None h = tt
        at t m d b (Some z) h = record { stops = λ S. t.goes S ∙ run_then left (balanced k o a c) g S us ∙ run_balanced_item left k o a c ((left, g) ∷ S) us m d b ∙ h.stops ((left, balanced k o a c) ∷ (left, g) ∷ S) }

  pub opens_bracket : {left : ℕ} {e a g : Production T} {k : ℕ} {o c : List ℕ} {ts : List T} {p : Production T} {t : T} {us : List T} → Turns G left e ts p (balanced k o a c ⨾ g) (t ∷ us) → is_among (G.class t) o ≡ true → (p' : Production T) → Spells G p' ts us → Turns G left e ts p' (balanced (suc k) o a c ⨾ g) us
  opens_bracket {left = left} {a = a} {g = g} {k = k} {o = o} {c = c} {t = t} {us = us} h b p' sp = record {
    spells = sp;
    goes = λ S. h.goes S ∙ run_then left (balanced k o a c) g S (t ∷ us) ∙ run_bracket left k o a c ((left, g) ∷ S) t us b ∙ sym (run_then left (balanced (suc k) o a c) g S us);
  }

  pub closes_bracket : {left : ℕ} {e a g : Production T} {k : ℕ} {o c : List ℕ} {ts : List T} {p : Production T} {t : T} {us : List T} → Turns G left e ts p (balanced (suc k) o a c ⨾ g) (t ∷ us) → apart o (first_set G.list_first a ++ c) ≡ true → apart (first_set G.list_first a) c ≡ true → is_among (G.class t) c ≡ true → (p' : Production T) → Spells G p' ts us → Turns G left e ts p' (balanced k o a c ⨾ g) us
  closes_bracket {left = left} {a = a} {g = g} {k = k} {o = o} {c = c} {t = t} {us = us} h x y b p' sp = record {
    spells = sp;
    goes = λ S. h.goes S ∙ run_then left (balanced (suc k) o a c) g S (t ∷ us) ∙ run_close left k o a c ((left, g) ∷ S) t us x y b ∙ sym (run_then left (balanced k o a c) g S us);
  }

  pub end_balanced : {left : ℕ} {e a g : Production T} {o c : List ℕ} {ts : List T} {p : Production T} {us : List T} → Turns G left e ts p (balanced 0 o a c ⨾ g) us → begins_with G us (o ++ first_set G.list_first a) ≡ false → Turns G left e ts p g us
  end_balanced {left = left} {a = a} {g = g} {o = o} {c = c} {us = us} t b = record { spells = t.spells; goes = λ S. t.goes S ∙ run_then left (balanced 0 o a c) g S us ∙ run_balanced_end left o a c ((left, g) ∷ S) us b }

  -- passing by one part or the other
  pub passes_left : {left : ℕ} {e f : Production T} {us vs : List T} → begins_with G us (first_set G.list_first e) ≡ true → Passes G left e us vs → Passes G left (e ∣ f) us vs
  passes_left {left = left} {e = e} {f = f} {us = us} b m = record { goes = λ S. run_left left e f S us b ∙ m.goes S }

  pub passes_right : {left : ℕ} {e f : Production T} {us vs : List T} → nullable e ≡ false → begins_with G us (first_set G.list_first e) ≡ false → Passes G left f us vs → Passes G left (e ∣ f) us vs
  passes_right {left = left} {e = e} {f = f} {us = us} n b m = record { goes = λ S. run_right left e f S us n b ∙ m.goes S }

  pub passes_then : {left : ℕ} {e f p : Production T} {ts us vs : List T} → Reads G left e ts p us → Passes G left f us vs → Passes G left (e ⨾ f) ts vs
  passes_then {left = left} {e = e} {f = f} {ts = ts} r m = record { goes = λ S. run_then left e f S ts ∙ r.goes ((left, f) ∷ S) ∙ m.goes S }

  module _ (some : firm G.list ≡ true) where
    pub moves_many : {left : ℕ} {a g : Production T} {us rest : List T} → firm a ≡ true → begins_with G us (first_set G.list_first a) ≡ true → Passes G left a us rest → Moves G left (many a ⨾ g) us (many a ⨾ g) rest
    moves_many {left = left} {a = a} {g = g} {us = us} {rest = rest} m b h = record {
      goes = λ S. run_then left (many a) g S us ∙ run_many_on some left a ((left, g) ∷ S) us m b ∙ h.goes ((left, many a) ∷ (left, g) ∷ S) ∙ sym (run_then left (many a) g S rest);
    }

  pub moves_past : {left : ℕ} {a g : Production T} {us : List T} → begins_with G us (first_set G.list_first a) ≡ false → Moves G left (many a ⨾ g) us g us
  moves_past {left = left} {a = a} {g = g} {us = us} b = record { goes = λ S. run_then left (many a) g S us ∙ run_many_stop left a ((left, g) ∷ S) us b }

  pub moves_then : {left : ℕ} {e f : Production T} {ts us : List T} → Passes G left e ts us → Moves G left (e ⨾ f) ts f us
  moves_then {left = left} {e = e} {f = f} {ts = ts} m = record { goes = λ S. run_then left e f S ts ∙ m.goes ((left, f) ∷ S) }
