-- Some jobs behind others, as the committer goes on.
--     commits_none, commits_one, commits_then      no job, one, and some behind others
--     commits_lost, as_err      want of memory behind them, and an error that a `?` makes anew
--     unlent           nothing was committed
--     fewer            with each job committed fewer are left
use Rattle.std.proofs.Common.{◌≡◌, ◌+◌, ◌-◌, ◌<◌, ℕ, zero, suc, Bool, true, List, [], ◌∷◌, ◌++◌, length, map, drop, Option, Some, None, Result, Ok, Err, refl, sym, ap, subst, ◌∙◌, append-nil, append_assoc, length-append, arith}
use Rattle.std.specs.Prelude.{IfOk, IfErr, IfSome, OnOk, IsErrAnd, slice_get}
use Rattle.std.proofs.lemmas.List.{drop-drop, map-append, length-map}
use Rattle.em_host.specs.Outside.{Outside, Tells}
use Rattle.em_host.proofs.Telling.{Tells-then, Tells-weaken, Tells-same, makes_none}
use Rattle.em_tree.specs.declared.outcome.Outcome.{Outcome}
use Rattle.em_tree.specs.declared.state.State.{State}
use Rattle.em_tree.specs.Trees.{Changes}
use Rattle.em_view.specs.declared.effect.Effect.{Effect}
use Rattle.em_view.specs.Serial.{after}
use Rattle.em_run.specs.declared.run.Parts.{Parts}
use Rattle.em_run.specs.Serial.{Made, state_after, outputs_of}
use Rattle.em_engine.specs.declared.event.Taken.{Taken}
use Rattle.em_engine.specs.declared.note.Note.{Note}
use Rattle.em_engine.specs.Fronts.{Standing, Stands, next_of}
use Rattle.em_engine.proofs.Fronting.{next_is, stands_more}
use Rattle.em_workers.specs.declared.next.Committed.{Committed}
use Rattle.em_workers.specs.declared.no.BuildNo.{BuildNo}
use Rattle.em_workers.specs.declared.no.BuildNo.TheVariants as no
use Rattle.em_workers.specs.Turns.{effect_of, IsCommitted, runs_for, IsNote}
use Rattle.em_workers.specs.Notes.{AreNotes, AreTurns}
use Rattle.em_workers.specs.Printing.{print, Says, Said, faults_after}
use Rattle.em_workers.specs.Lending.{Lending, Both, Lends, Stops}
use Rattle.em_workers.specs.Commits.{rest_of, note_in, Delivers, Serves, Commits}
use Rattle.em_workers.proofs.Noting.{note_is, notes_then, turns_then}
use Rattle.em_workers.proofs.Saying.{said_one, said_then, said_lost, faults_left}
use Rattle.em_workers.proofs.Lending.{Both-then, Both-weaken, Both-same, on_ok, serves_none, serves_one, serves_lost, serves_err, serves_ok, serves_stopped, serves_then}

state_then : (s : State) (ms os : List Made) → state_after s (ms ++ os) ≡ state_after (state_after s ms) os
state_then s [] os = refl
state_then s (m ∷ ms) os = state_then (after m.effect s) ms os

outputs_then : (ms os : List Made) → outputs_of (ms ++ os) ≡ outputs_of ms ++ outputs_of os
outputs_then ms os = map-append (λ (m : Made). m.effect.output) ms os

drop_at : {A : Type 0} (xs : List A) (n : ℕ) (x : A) → slice_get xs n ≡ Some x → (rest : List A) × (drop n xs ≡ x ∷ rest)
drop_at [] n x is = absurd (cc)
drop_at (y ∷ xs) zero x is = (xs, ap (λ (z : _). z ∷ xs) (same y x is))
  where
    same : {A : Type 0} (a b : A) → Some a ≡ Some b → a ≡ b
    same a b e = cc
drop_at (y ∷ xs) (suc n) x is = drop_at xs n x is

-- what was committed of a job, as what it made
abbrev pub made_of : Committed → Made
made_of c = record { effect = effect_of c; fuel = c.fuel }

pub next_left : {S : Type 0} (v : Standing S) (next : S) → next_of v ≡ Some next → (rest : List S) × (rest_of v ≡ next ∷ rest)
next_left v next is = drop_at v.specs (length v.deltas) next (next_is v next is).1

module _ {S : Type 0} (job_of : S → ℕ) (eq : S → S → Bool) (makes : S → State → Effect → ℕ → Type 0) (ends : S → Outcome → Bool) where
  module _ {A : Type 0} (v : Standing S) (a : Option (Lending S)) (x : Option Outside) where
    unlent : (r : Result A BuildNo) (b : Option (Lending S)) → OnOk r (AreNotes v.state v.deltas [] []) → OnOk r (AreTurns job_of eq v.state v.deltas (rest_of v) [] [] [])
        → Both (Serves job_of (rest_of v) [] [] r) a b → Tells (Said [] r) x x → Commits job_of eq makes ends [] r v v a b x x
    unlent r b noted turns served printed = record {
      made = [];
      lent = [];
      start = refl;
      specs = refl;
      state = refl;
      deltas = sym (append-nil v.deltas);
      stands = λ before s. subst (Stands makes ends v) (sym (append-nil before)) s;
      noted = noted;
      turns = turns;
      served = served;
      printed = printed;
    }

    pub commits_none : (r : A) → Commits job_of eq makes ends [] (Ok r) v v a a x x
    commits_none r = unlent (Ok r) a tt tt
        (Both-same (Serves job_of (rest_of v) [] [] (Ok r)) a (λ l. serves_none job_of (rest_of v) (Ok r) l))
        (Tells-same (Said [] (Ok r)) x (λ y. makes_none y))

    -- memory ran out before anything was committed
    pub commits_not : (b : Option (Lending S)) (notes : List Note) → Both (Serves job_of {A = A} (rest_of v) [] [] (Err no.NoMemory)) a b
        → Commits job_of eq makes ends {A = A} notes (Err no.NoMemory) v v a b x x
    commits_not b notes served =
        let c = unlent (Err no.NoMemory) b tt tt served (Tells-same (Said {A = A} [] (Err no.NoMemory)) x (λ y. said_lost [] y y (makes_none y))) in
        record { made = c.made; lent = c.lent; start = c.start; specs = c.specs; state = c.state; deltas = c.deltas; stands = c.stands; noted = tt; turns = tt; served = c.served; printed = c.printed }

  pub ok_of : {A P : Type 0} (r : Result A BuildNo) → P → OnOk r P
  ok_of (Ok a) p = p
  ok_of (Err e) p = tt

  module _ {A : Type 0} (v w : Standing S) (next : S) (c : Committed) (lent : Option (Taken S)) (note : Note) (r : Result A BuildNo) where
    pub commits_one : (a b : Option (Lending S)) (x y : Option Outside) → next_of v ≡ Some next → job_of next ≡ length v.deltas → IsCommitted makes ends v w next c
        → OnOk r (IsNote job_of eq v.state v.deltas next lent note)
        → Both (Serves job_of (rest_of v) (lent ∷ []) (made_of c ∷ []) r) a b → Tells (Says (print c.output) r) x y
        → Commits job_of eq makes ends (note ∷ []) r v w a b x y
    commits_one a b x y is place done noted served printed = record {
      made = made_of c ∷ [];
      lent = lent ∷ [];
      start = ap (λ (u : Standing S). u.start) done.stands;
      specs = ap (λ (u : Standing S). u.specs) done.stands;
      state = ap (λ (u : Standing S). u.state) done.stands;
      deltas = ap (λ (u : Standing S). u.deltas) done.stands;
      stands = λ before s. subst (λ (u : Standing S). Stands makes ends u (before ++ made_of c ∷ [])) (sym done.stands) (stands_more makes ends v before as_run next s is done.made refl);
      noted = on_ok r (λ (n : IsNote job_of eq v.state v.deltas next lent note). (note_is job_of eq v.state v.deltas next lent note place n, tt)) noted;
      turns = on_ok r
          (λ (n : IsNote job_of eq v.state v.deltas next lent note).
          subst (λ (js : List S). AreTurns job_of eq v.state v.deltas js (lent ∷ []) (made_of c ∷ []) (note ∷ [])) (sym (next_left v next is).1) (n, tt))
          noted;
      served = served;
      printed = Tells-weaken x y (λ l m f. said_one c.output r l m f) printed;
    }
      where
        as_run : Parts S
        as_run = record { spec = next; usage = []; delta = c.delta; output = c.output; outcome = c.outcome; fuel = c.fuel }

  left_then : (u v : Standing S) (made : List Made) → v.specs ≡ u.specs → v.deltas ≡ u.deltas ++ map (λ (m : Made). m.effect.changes) made → rest_of v ≡ drop (length made) (rest_of u)
  left_then u v made specs deltas =
      ap (λ (js : List S). drop (length v.deltas) js) specs
      ∙ ap (λ (n : ℕ). drop n u.specs) (ap length deltas ∙ length-append u.deltas (map (λ (m : Made). m.effect.changes) made) ∙ ap (λ (n : ℕ). length u.deltas + n) (length-map made _))
      ∙ sym (drop-drop (length made) (length u.deltas) u.specs)

  pub commits_then : {A B : Type 0} (o : B) (ns os : List Note) (r : Result A BuildNo) (u v w : Standing S) (a b c : Option (Lending S)) (x y z : Option Outside)
      → Commits job_of eq makes ends {A = B} ns (Ok o) u v a b x y → Commits job_of eq makes ends os r v w b c y z → Commits job_of eq makes ends (ns ++ os) r u w a c x z
  commits_then o ns os r u v w a b c x y z p q = record {
    made = p.made ++ q.made;
    lent = p.lent ++ q.lent;
    start = q.start ∙ p.start;
    specs = q.specs ∙ p.specs;
    state = q.state ∙ ap (λ (s : State). state_after s q.made) p.state ∙ sym (state_then u.state p.made q.made);
    deltas =
        q.deltas
        ∙ ap (λ (ds : List Changes). ds ++ map (λ (m : Made). m.effect.changes) q.made) p.deltas
        ∙ append_assoc u.deltas (map (λ (m : Made). m.effect.changes) p.made) (map (λ (m : Made). m.effect.changes) q.made)
        ∙ ap (λ (ds : List Changes). u.deltas ++ ds) (sym (map-append (λ (m : Made). m.effect.changes) p.made q.made));
    stands = λ before s. subst (Stands makes ends w) (append_assoc before p.made q.made) (q.stands (before ++ p.made) (p.stands before s));
    noted = on_ok r
        (λ (h : AreNotes v.state v.deltas q.made os).
        notes_then u.state u.deltas p.made q.made ns os p.noted
        (subst (λ (ds : List Changes). AreNotes (state_after u.state p.made) ds q.made os) p.deltas
        (subst (λ (s : State). AreNotes s v.deltas q.made os) p.state h)))
        q.noted;
    turns = on_ok r
        (λ (h : AreTurns job_of eq v.state v.deltas (rest_of v) q.lent q.made os).
        turns_then job_of eq u.state u.deltas (rest_of u) p.lent q.lent p.made q.made ns os p.turns
        (subst (λ (js : List S). AreTurns job_of eq (state_after u.state p.made) (u.deltas ++ map (λ (m : Made). m.effect.changes) p.made) js q.lent q.made os) left
        (subst (λ (ds : List Changes). AreTurns job_of eq (state_after u.state p.made) ds (rest_of v) q.lent q.made os) p.deltas
        (subst (λ (s : State). AreTurns job_of eq s v.deltas (rest_of v) q.lent q.made os) p.state h))))
        q.turns;
    served = Both-then a b c
        (λ l m n f g. serves_then job_of o (rest_of u) p.lent q.lent p.made q.made r l m n f (subst (λ (js : List S). Serves job_of js q.lent q.made r m n) left g))
        p.served q.served;
    printed = Tells-then x y z
        (λ l m n f g. subst (λ (outs : List (List ℕ)). Said outs r l n) (sym (outputs_then p.made q.made)) (said_then (outputs_of p.made) (outputs_of q.made) r l m n f g))
        p.printed q.printed;
  }
    where
      left : rest_of v ≡ drop (length p.made) (rest_of u)
      left = left_then u v p.made p.specs p.deltas

  -- memory ran out behind them
  pub commits_lost : {A B : Type 0} (o : B) (ns os : List Note) (v w : Standing S) (a b : Option (Lending S)) (x y : Option Outside)
      → Commits job_of eq makes ends {A = B} ns (Ok o) v w a b x y → Commits job_of eq makes ends {A = A} os (Err no.NoMemory) v w a b x y
  commits_lost {A} o ns os v w a b x y p = record {
    made = p.made;
    lent = p.lent;
    start = p.start;
    specs = p.specs;
    state = p.state;
    deltas = p.deltas;
    stands = p.stands;
    noted = tt;
    turns = tt;
    served = Both-weaken a b (λ l m f. serves_err job_of (rest_of v) p.lent p.made l m (Ok o) no.NoMemory f) p.served;
    printed = Tells-weaken x y (λ l m f. said_lost (outputs_of p.made) l m f) p.printed;
  }

  pub as_err : {A B : Type 0} (e : BuildNo) (ns os : List Note) (r : Result B BuildNo) (v w : Standing S) (a b : Option (Lending S)) (x y : Option Outside) → IsErrAnd r (λ s. s ≡ e)
      → Commits job_of eq makes ends {A = A} ns (Err e) v w a b x y → Commits job_of eq makes ends os r v w a b x y
  as_err e ns os (Ok o) v w a b x y is p = absurd is
  as_err {A} {B} e ns os (Err s) v w a b x y is p = subst (λ (t : BuildNo). Commits job_of eq makes ends {A = B} os (Err t) v w a b x y) (sym is) (record {
    made = p.made;
    lent = p.lent;
    start = p.start;
    specs = p.specs;
    state = p.state;
    deltas = p.deltas;
    stands = p.stands;
    noted = tt;
    turns = tt;
    served = Both-weaken a b (λ l m f. serves_err job_of (rest_of v) p.lent p.made l m (Err e) e f) p.served;
    printed = Tells-weaken x y (λ l m f. f) p.printed;
  })

  -- with a note more a job more is committed
  turned : (s : State) (ds : List Changes) (js : List S) (ls : List (Option (Taken S))) (ms : List Made) (n : Note) → AreTurns job_of eq s ds js ls ms (n ∷ []) → (0 < length ms) × (0 < length js)
  turned s ds js [] [] n t = absurd t
  turned s ds js [] (m ∷ ms) n t = absurd t
  turned s ds [] (l ∷ ls) ms n t = absurd t
  turned s ds (j ∷ js) (l ∷ ls) [] n t = absurd t
  turned s ds (j ∷ js) (l ∷ ls) (m ∷ ms) n t = (omega arith, omega arith)

  dropped : {X : Type 0} (n : ℕ) (xs : List X) → 0 < length (drop n xs) → n < length xs
  dropped zero xs h = h
  dropped (suc n) [] h = absurd (omega arith)
  dropped (suc n) (x ∷ xs) h = let rest = dropped n xs h in omega (arith, rest)

  pub fewer : {A : Type 0} (o : A) (n : Note) (v w : Standing S) (a b : Option (Lending S)) (x y : Option Outside) → Commits job_of eq makes ends (n ∷ []) (Ok o) v w a b x y
      → length w.specs - length w.deltas < length v.specs - length v.deltas
  fewer o n v w a b x y p =
      let some = turned v.state v.deltas (rest_of v) p.lent p.made n p.turns in
      let more : length w.deltas ≡ length v.deltas + length p.made = ap length p.deltas ∙ length-append v.deltas (map (λ (m : Made). m.effect.changes) p.made) ∙ ap (λ (k : ℕ). length v.deltas + k) (length-map p.made _) in
      let same : length w.specs ≡ length v.specs = ap length p.specs in
      let within = dropped (length v.deltas) v.specs some.1 in
      let first = some.0 in
      omega (arith, more, same, within, first)

  module _ {A B : Type 0} (v w : Standing S) (a b : Option (Lending S)) (x y : Option Outside) where
    pub as_ok : (o : A) (q : B) (ns : List Note) → Commits job_of eq makes ends ns (Ok o) v w a b x y → Commits job_of eq makes ends ns (Ok q) v w a b x y
    as_ok o q ns p = record {
      made = p.made;
      lent = p.lent;
      start = p.start;
      specs = p.specs;
      state = p.state;
      deltas = p.deltas;
      stands = p.stands;
      noted = p.noted;
      turns = p.turns;
      served = Both-weaken a b (λ l m f. serves_ok job_of (rest_of v) p.lent p.made l m o q f) p.served;
      printed = Tells-weaken x y (λ l m f. f) p.printed;
    }

  -- the next job, as its note was handed out
  pub as_noted : (d : Result (Unit {0}) BuildNo) (note : Note) (r : Result (Option Note) BuildNo) (v w : Standing S) (a b : Option (Lending S)) (x y : Option Outside)
      → OnOk d (r ≡ Ok (Some note)) → IfErr d (λ e. r ≡ Err e) → Commits job_of eq makes ends (note ∷ []) d v w a b x y → Commits job_of eq makes ends (note_in r) r v w a b x y
  as_noted (Ok u) note r v w a b x y ok err p =
      subst (λ (s : Result (Option Note) BuildNo). Commits job_of eq makes ends (note_in s) s v w a b x y) (sym ok) (as_ok v w a b x y u (Some note) (note ∷ []) p)
  as_noted (Err e) note r v w a b x y ok err p =
      subst (λ (s : Result (Option Note) BuildNo). Commits job_of eq makes ends (note_in s) s v w a b x y) (sym err) (as_err e (note ∷ []) [] (Err e) v w a b x y refl p)

  -- the lender is stopped
  pub then_stopped : {A : Type 0} (r : Result A BuildNo) (ns : List Note) (v w : Standing S) (a b c : Option (Lending S)) (x y : Option Outside) → Commits job_of eq makes ends ns r v w a b x y → Both Stops b c
      → Commits job_of eq makes ends ns r v w a c x y
  then_stopped r ns v w a b c x y p stops = record {
    made = p.made;
    lent = p.lent;
    start = p.start;
    specs = p.specs;
    state = p.state;
    deltas = p.deltas;
    stands = p.stands;
    noted = p.noted;
    turns = p.turns;
    served = Both-then a b c (λ l m n f g. serves_stopped job_of r (rest_of v) p.lent p.made l m n f g)
        p.served stops;
    printed = p.printed;
  }

  pub is_stopped : {A : Type 0} (r : Result A BuildNo) (ns : List Note) (v w : Standing S) (a b c : Option (Lending S)) (x y : Option Outside) → Commits job_of eq makes ends ns r v w a b x y → Both Stops b c
      → Both (λ l m. m.stopped ≡ true) a c
  is_stopped r ns v w a b c x y p stops = Both-then a b c (λ l m n f g. ap (λ (k : Lending S). k.stopped) g) p.served stops

pub some_noted : (d : Result (Unit {0}) BuildNo) (note : Note) (r : Result (Option Note) BuildNo) (P : Type 0) → OnOk d (r ≡ Ok (Some note)) → IfErr d (λ e. r ≡ Err e) → IfOk r (λ n. n ≡ None → P)
some_noted (Ok u) note r P ok err = subst (λ (s : Result (Option Note) BuildNo). IfOk s (λ n. n ≡ None → P)) (sym ok) (λ e. absurd (cc))
some_noted (Err e) note r P ok err = subst (λ (s : Result (Option Note) BuildNo). IfOk s (λ n. n ≡ None → P)) (sym err) tt

pub faults_noted : (d : Result (Unit {0}) BuildNo) (note : Note) (r : Result (Option Note) BuildNo) (k n : ℕ) → OnOk d (r ≡ Ok (Some note)) → IfErr d (λ e. r ≡ Err e) → k ≡ faults_after d n → k ≡ faults_after r n
faults_noted (Ok u) note r k n ok err counted = subst (λ (s : Result (Option Note) BuildNo). k ≡ faults_after s n) (sym ok) counted
faults_noted (Err e) note r k n ok err counted = faults_left (Unit {0}) e r k n (subst (λ (s : Result (Option Note) BuildNo). IsErrAnd s (λ t. t ≡ e)) (sym err) refl) counted

pub at_some : {X : Type 0} (o : Option X) (x : X) (P : X → Type 0) → Some x ≡ o → IfSome o P → P x
at_some {X} o x P is p = subst (λ (z : Option X). IfSome z P) (sym is) p

module _ {S : Type 0} (job_of : S → ℕ) (eq : S → S → Bool) (makes : S → State → Effect → ℕ → Type 0) (ends : S → Outcome → Bool) where
  module _ (v w : Standing S) (next : S) (c : Committed) (note : Note) (is : Some next ≡ next_of v)
      (done : IfSome (next_of v) (λ n. IsCommitted makes ends v w n c)) where
    -- one job, of which something may have been lent
    pub commits_next : (job : ℕ) (lent : Option (Taken S)) (r : Result (Unit {0}) BuildNo) (a b e : Option (Lending S)) (x y : Option Outside) → job ≡ job_of next
        → IfSome (next_of v) (λ n. job_of n ≡ length v.deltas)
        → IfSome (next_of v) (λ n. IsNote job_of eq v.state v.deltas n lent note)
        → Both (Lends job lent) a b → Both (Delivers {A = Unit {0}} (record { job = job; delta = c.delta; outcome = c.outcome }) r) b e → Tells (Says (print c.output) r) x y
        → Commits job_of eq makes ends (note ∷ []) r v w a e x y
    commits_next job lent r a b e x y same place noted lends delivers printed =
        let left = next_left v next (sym is) in
        commits_one job_of eq makes ends v w next c lent note r a e x y (sym is) (at_some (next_of v) next (λ n. job_of n ≡ length v.deltas) is place) (at_some (next_of v) next (λ n. IsCommitted makes ends v w n c) is done)
        (ok_of job_of eq makes ends r (at_some (next_of v) next (λ n. IsNote job_of eq v.state v.deltas n lent note) is noted))
        (Both-then a b e
        (λ l m n f g. serves_one job_of (rest_of v) next left.0 (made_of c) r job lent l m n left.1 same f
        (subst (λ (k : ℕ). Delivers {A = Unit {0}} (record { job = k; delta = c.delta; outcome = c.outcome }) r m n) same g))
        lends delivers)
        printed

    -- one job, of which nothing is lent
    pub commits_alone : {A : Type 0} (r : Result A BuildNo) (x y : Option Outside) → note.job ≡ job_of next → IfSome (next_of v) (λ n. job_of n ≡ length v.deltas) → note.runs ≡ 1 → note.cause ≡ None → Tells (Says (print c.output) r) x y
        → Commits job_of eq makes ends (note ∷ []) r v w None None x y
    commits_alone r x y same place once none printed =
        commits_one job_of eq makes ends v w next c None note r None None x y (sym is) (at_some (next_of v) next (λ n. job_of n ≡ length v.deltas) is place) (at_some (next_of v) next (λ n. IsCommitted makes ends v w n c) is done)
        (ok_of job_of eq makes ends r (record { job = same; runs = once ∙ ap runs_for (sym none); cause = none })) tt printed

  -- memory ran out over the next job, of which something may have been lent
  pub commits_want : {B : Type 0} (r : Result B BuildNo) (ns : List Note) (v w : Standing S) (next : S) (job : ℕ) (lent : Option (Taken S)) (a b : Option (Lending S)) (x : Option Outside)
      → IsErrAnd r (λ s. s ≡ no.NoMemory) → w ≡ v → Some next ≡ next_of v → job ≡ job_of next → Both (Lends job lent) a b → Commits job_of eq makes ends ns r v w a b x x
  commits_want r ns v w next job lent a b x is same at number lends =
      let left = next_left v next (sym at) in
      subst (λ (u : Standing S). Commits job_of eq makes ends ns r v u a b x x) (sym same)
      (as_err job_of eq makes ends no.NoMemory [] ns r v v a b x x is
      (commits_not job_of eq makes ends {A = Unit {0}} v a x b [] (Both-weaken a b (λ l m f. serves_lost job_of {A = Unit {0}} (rest_of v) no.NoMemory next left.0 job lent l m left.1 number f) lends)))

  -- memory ran out before anything was asked for
  pub commits_idle : {B : Type 0} (r : Result B BuildNo) (ns : List Note) (v w : Standing S) (a : Option (Lending S)) (x : Option Outside) → IsErrAnd r (λ s. s ≡ no.NoMemory) → w ≡ v
      → Commits job_of eq makes ends ns r v w a a x x
  commits_idle r ns v w a x is same =
      subst (λ (u : Standing S). Commits job_of eq makes ends ns r v u a a x x) (sym same)
      (as_err job_of eq makes ends no.NoMemory [] ns r v v a a x x is
      (commits_not job_of eq makes ends {A = Unit {0}} v a x a [] (Both-same (Serves job_of {A = Unit {0}} (rest_of v) [] [] (Err no.NoMemory)) a (λ l. serves_none job_of (rest_of v) (Err no.NoMemory) l))))

  -- a stretch of jobs behind others, the end of a loop
  module _ {A B : Type 0} (o : A) (p : B) (ns : List Note) (u v w : Standing S) (a b c : Option (Lending S)) (x y z : Option Outside) where
    pub commits_both : {C : Type 0} (q : C) (os : List Note) → Commits job_of eq makes ends ns (Ok o) u v a b x y → Commits job_of eq makes ends os (Ok p) v w b c y z → Commits job_of eq makes ends (ns ++ os) (Ok q) u w a c x z
    commits_both q os first next = as_ok job_of eq makes ends u w a c x z p q (ns ++ os) (commits_then job_of eq makes ends o ns os (Ok p) u v w a b c x y z first next)

    pub commits_more : (os : List Note) → Commits job_of eq makes ends ns (Ok o) u v a b x y → Commits job_of eq makes ends os (Ok p) v w b c y z → Commits job_of eq makes ends (ns ++ os) (Ok o) u w a c x z
    commits_more os first next = commits_both o os first next

    pub commits_end : {C : Type 0} (q : C) → Commits job_of eq makes ends ns (Ok o) u v a b x y → Commits job_of eq makes ends [] (Ok p) v w b c y z → Commits job_of eq makes ends ns (Ok q) u w a c x z
    commits_end q first last = subst (λ (ms : List Note). Commits job_of eq makes ends ms (Ok q) u w a c x z) (append-nil ns) (commits_both q [] first last)

    -- memory ran out behind them
    pub commits_out : {C : Type 0} (r : Result C BuildNo) (ms os : List Note) → IsErrAnd r (λ s. s ≡ no.NoMemory) → Commits job_of eq makes ends ns (Ok o) u v a b x y
        → Commits job_of eq makes ends os (Ok p) v w b c y z → Commits job_of eq makes ends ms r u w a c x z
    commits_out r ms os is first next =
        as_err job_of eq makes ends no.NoMemory [] ms r u w a c x z is
        (commits_lost job_of eq makes ends {A = A} o (ns ++ os) [] u w a c x z (commits_more os first next))
