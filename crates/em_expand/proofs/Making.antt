-- What the steps of an expansion come to.
use Rattle.std.specs.Prelude.{IsErrAnd}
use Rattle.std.proofs.Common.{◌≡◌, ◌≢◌, ◌≤◌, ◌<◌, ◌+◌, ◌-◌, ℕ, zero, suc, Bool, true, false, List, [], ◌∷◌, ◌++◌, length, map, drop, get_or, add-one, drop-cons, Bor, Option, Result, Ok, Err, refl, sym, ap, subst, arith}
use Rattle.std.proofs.lemmas.Bool.{lt-ltb, le-ltb}
use Rattle.std.proofs.lemmas.List.{length-map}
use Rattle.em_view.specs.declared.no.DeskNo.{DeskNo}
use Rattle.em_view.specs.declared.no.DeskNo.TheVariants as desk
use Rattle.em_view.specs.Actions.{Action}
use Rattle.em_view.specs.Performs.{DeskState, Told, Performs}
use Rattle.em_view.specs.Performs as performs
use Rattle.em_view.specs.Rows.{is_memory}
use Rattle.em_view.specs.Steps.{with_state, below, Does}
use Rattle.em_view.proofs.Doing.{Goes, then_s, leave_s, finish_s, out_s, owned_s, refused_s, gave_s, below_err, more_s, stop_s, end_s}
use Rattle.em_base.proofs.Lemmas.{none_at}
use Rattle.em_base.specs.Blanks.{trimmed}
use Rattle.em_expand.specs.declared.no.ExpandNo.{ExpandNo}
use Rattle.em_expand.specs.declared.no.ExpandNo.TheVariants as no
use Rattle.em_expand.specs.declared.spoken.Spoken.{Spoken}
use Rattle.em_expand.specs.Desks.{Says, is_free, of_desk, pay}
use Rattle.em_base.specs.declared.place.Place.{Place}
use Rattle.em_refs.specs.declared.part.Bracket.{Bracket}
use Rattle.em_refs.specs.declared.part.Part.{Part}
use Rattle.em_refs.specs.declared.part.Parted.{Parted}
use Rattle.em_refs.specs.Parts.{parted}
use Rattle.em_vars.specs.Entries.{Entries}
use Rattle.em_expand.specs.Scopes.{Frame, each, argument}
use Rattle.em_expand.specs.Table.{Row}
use Rattle.em_expand.specs.Calls as calls
use Rattle.em_expand.specs.Calls.{call_of, Substitution, substitution_of}
use Rattle.em_expand.specs.Values.{Stands, meaning_of}
use Rattle.em_expand.specs.Expansion.{Setting, Deeper, gives, enough, put_variable, variable, put_called, call, put_name, put_inner, evaluate, Refers, put_part, put_end, put_parts, put_text, ends, until, turns, arguments}

pub desk_same : (x : DeskNo) → is_free (of_desk x) ≡ is_memory x
desk_same desk.NoMemory = refl
desk_same desk.Spent = refl
desk_same (desk.File f) = refl

module _ {V : Type 0} {tells : V → Told} {old new : DeskState V} {s : Spoken} where
  -- a desk's error, handed on
  pub below_leave : {A : Type 0} {e : DeskNo} {r : Result A ExpandNo} {m : Action DeskNo A} → IsErrAnd r (λ x. x ≡ of_desk e) → Performs is_memory tells old new (Err e) m → Does is_free tells old new s s r (below of_desk m)
  below_leave {r = Ok a} is p = absurd is
  below_leave {r = Err x} is p = below_err of_desk desk_same (λ h. is) p

-- a value or an error that was found without a desk
pub given_s : {V : Type 0} {tells : V → Told} {d : DeskState V} {s : Spoken} {r : Result (List ℕ) ExpandNo} (x : Result (List ℕ) ExpandNo) → (performs.is_free is_free r ≡ false → r ≡ x) → Does is_free tells d d s s r (gives x)
given_s {s} x is = owned_s (with_state x) (λ h. ap (λ (y : Result (List ℕ) ExpandNo). with_state y s) (is h))

-- ---- enough arguments, or too few

module _ {V : Type 0} {tells : V → Told} {old new : DeskState V} {s u : Spoken} (row : Row) (args : List (List ℕ)) where
  pub enough_s : {r : Result (List ℕ) ExpandNo} {m : Says (List ℕ)} → row.least ≤ length args → Does is_free tells old new s u r m → Does is_free tells old new s u r (enough row args m)
  enough_s le p = rw (le-ltb (length args) row.least le) p

pub few_s : {V : Type 0} {tells : V → Told} {d : DeskState V} {s : Spoken} (row : Row) (args : List (List ℕ)) {f : ExpandNo} (m : Says (List ℕ))
    → length args < row.least → (is_free f ≡ false → f ≡ no.BadArgument row.name) → Does is_free tells d d s s (Err f) (enough row args m)
few_s row args m lt is = rw (lt-ltb (length args) row.least lt) (refused_s (no.BadArgument row.name) is)

pub one_more : (left : ℕ) → left ≢ 0 → left ≡ suc (left - 1)
one_more zero h = absurd (h refl)
one_more (suc n) h = let e : suc n - 1 ≡ n = omega arith in ap suc (sym e)

-- ---- the definitions, from what the code found

-- what a name stands for
module _ {V : Type 0} {tells : V → Told} {old new : DeskState V} {s u : Spoken} {r : Result (List ℕ) ExpandNo} (deeper : Deeper) (vars : Entries) (frames : List Frame) where
  pub as_variable : (name out : List ℕ) (m : Stands) → m ≡ meaning_of vars frames name → Does is_free tells old new s u r (put_variable deeper frames name m out) → Does is_free tells old new s u r (variable deeper vars frames name out)
  unfolding variable
  as_variable name out m e p = subst (λ (x : Stands). Does is_free tells old new s u r (put_variable deeper frames name x out)) e p

  pub as_call : (args : List (List ℕ)) (out : List ℕ) (m : Stands) → m ≡ meaning_of vars frames (argument args 0) → Does is_free tells old new s u r (put_called deeper frames args m out) → Does is_free tells old new s u r (call deeper vars frames args out)
  unfolding call
  as_call args out m e p = subst (λ (x : Stands). Does is_free tells old new s u r (put_called deeper frames args x out)) e p

  -- a name that is a substitution, or isn't
  pub as_name : (cwd : List ℕ) (place : Place) (name out : List ℕ) (o : Option Substitution) → o ≡ substitution_of name
      → Does is_free tells old new s u r (put_name deeper (record { vars = vars; cwd = cwd; place = place }) frames o name out)
      → Does is_free tells old new s u r (put_name deeper (record { vars = vars; cwd = cwd; place = place }) frames (substitution_of name) name out)
  as_name cwd place name out o e p = subst (λ (x : Option Substitution). Does is_free tells old new s u r (put_name deeper (record { vars = vars; cwd = cwd; place = place }) frames x name out)) e p

-- a call, or none
pub as_inner : {V : Type 0} {tells : V → Told} {old new : DeskState V} {s u : Spoken} {r : Result (List ℕ) ExpandNo} (deeper : Deeper) (set : Setting) (frames : List Frame) (bracket : Option Bracket) (inner out : List ℕ) (o : Option calls.Call)
    → o ≡ call_of bracket inner → Does is_free tells old new s u r (put_inner deeper set frames o inner out) → Does is_free tells old new s u r (evaluate deeper set frames bracket inner out)
unfolding evaluate
as_inner {tells} {old} {new} {s} {u} {r} deeper set frames bracket inner out o e p = subst (λ (x : Option calls.Call). Does is_free tells old new s u r (put_inner deeper set frames x inner out)) e p

-- a text, by its parts
pub as_text : {V : Type 0} {tells : V → Told} {old new : DeskState V} {s u : Spoken} {r : Result (List ℕ) ExpandNo} (refer : Refers) (text out : List ℕ) (parts items : List Part) (unclosed : Option ℕ)
    → items ≡ parts → record { parts = parts; unclosed = unclosed } ≡ parted text
    → Does is_free tells old new s u r (put_parts refer text unclosed items out) → Does is_free tells old new s u r (put_text refer text out)
as_text {tells} {old} {new} {s} {u} {r} refer text out parts items unclosed same e d =
    let here : Does is_free tells old new s u r (put_parts refer text unclosed parts out) = subst (λ (ps : List Part). Does is_free tells old new s u r (put_parts refer text unclosed ps out)) same d in
    subst (λ (x : Parted). Does is_free tells old new s u r (put_parts refer text x.unclosed x.parts out)) e here

-- ---- the turns of loops

-- the next of a list of texts
next_text : (ts : List (Bor (List ℕ))) (i : ℕ) (d : Bor (List ℕ)) → i < length ts → map (λ t. t.now) (drop i ts) ≡ (get_or ts i d).now ∷ map (λ t. t.now) (drop (i + 1) ts)
next_text ts i d lt = rw (add-one, drop-cons ts i d lt) refl

next_part : (ps : List Part) (i : ℕ) (d : Part) → i < length ps → drop i ps ≡ get_or ps i d ∷ drop (i + 1) ps
next_part ps i d lt = rw (add-one, drop-cons ps i d lt) refl

-- a value that isn't want of memory
pub ok_same : {x y : List ℕ} → (let a : Result (List ℕ) ExpandNo = Ok x in let b : Result (List ℕ) ExpandNo = Ok y in a ≡ b) → x ≡ y
ok_same h = cc

freed : (b : Bool) → (b ≡ false → ⊥) → b ≡ true
freed true h = refl
freed false h = absurd (h refl)

module _ {V : Type 0} {tells : V → Told} {first here : DeskState V} {s t : Spoken} {whole : Says (List ℕ)} where
  -- the parts of a text
  module _ (refer : Refers) (text : List ℕ) (unclosed : Option ℕ) (ps : List Part) (i : ℕ) (out : List ℕ) (inv : Goes is_free tells first here s t whole (put_parts refer text unclosed (drop i ps) out)) where
    pub part_stop : {next : DeskState V} {u : Spoken} {e : ExpandNo} {r : Result (List ℕ) ExpandNo} (d : Part) → i < length ps → IsErrAnd r (λ x. x ≡ e)
        → Does is_free tells here next t u (Err e) (put_part refer text (get_or ps i d) out) → Does is_free tells first next s u r whole
    part_stop d lt is p = stop_s _ (rw (next_part ps i d lt) at inv) is p

    pub part_more : {next : DeskState V} {u : Spoken} {all : List ℕ} (d : Part) → i < length ps
        → Does is_free tells here next t u (Ok all) (put_part refer text (get_or ps i d) out) → Goes is_free tells first next s u whole (put_parts refer text unclosed (drop (i + 1) ps) all)
    part_more d lt p = more_s _ (rw (next_part ps i d lt) at inv) p

    pub part_end : {r : Result (List ℕ) ExpandNo} {next : DeskState V} {u : Spoken} → length ps ≤ i → Does is_free tells here next t u r (put_end unclosed out) → Does is_free tells first next s u r whole
    part_end le p = end_s (rw (none_at ps i le) at inv) p

  -- the arguments of `or` and `and`
  module _ (deeper : Deeper) (frames : List Frame) (filled : Bool) (args : List (Bor (List ℕ))) (i : ℕ) (last out : List ℕ) (inv : Goes is_free tells first here s t whole (until deeper frames filled (map (λ a. a.now) (drop i args)) last out)) where
    pub until_stop : {next : DeskState V} {u : Spoken} {e : ExpandNo} {r : Result (List ℕ) ExpandNo} (d : Bor (List ℕ)) → i < length args → IsErrAnd r (λ x. x ≡ e)
        → Does is_free tells here next t u (Err e) (deeper frames (trimmed (get_or args i d).now) []) → Does is_free tells first next s u r whole
    until_stop d lt is p = stop_s _ (rw (next_text args i d lt) at inv) is p

    pub until_ends : {next : DeskState V} {u : Spoken} {value : List ℕ} {r : Result (List ℕ) ExpandNo} (d : Bor (List ℕ)) → i < length args
        → Does is_free tells here next t u (Ok value) (deeper frames (trimmed (get_or args i d).now) []) → ends filled value ≡ true → (performs.is_free is_free r ≡ false → r ≡ Ok (out ++ value)) → Does is_free tells first next s u r whole
    until_ends d lt p e is = end_s (rw (next_text args i d lt) at inv) (then_s _ p (rw e (gave_s _ is)))

    pub until_more : {next : DeskState V} {u : Spoken} {value : List ℕ} (d : Bor (List ℕ)) → i < length args
        → Does is_free tells here next t u (Ok value) (deeper frames (trimmed (get_or args i d).now) []) → ends filled value ≡ false
        → Goes is_free tells first next s u whole (until deeper frames filled (map (λ a. a.now) (drop (i + 1) args)) value out)
    until_more d lt p e = rw e at (more_s _ (rw (next_text args i d lt) at inv) p)

    pub until_end : {r : Result (List ℕ) ExpandNo} → length args ≤ i → (performs.is_free is_free r ≡ false → r ≡ Ok (out ++ last)) → Does is_free tells first here s t r whole
    until_end le is = end_s (rw (none_at args i le) at inv) (gave_s _ is)

  -- the turns of `foreach`
  module _ (deeper : Deeper) (frames : List Frame) (name text : List ℕ) (words : List (Bor (List ℕ))) (i : ℕ) (gap out : List ℕ) (inv : Goes is_free tells first here s t whole (turns deeper frames name text (map (λ w. w.now) (drop i words)) gap out)) where
    pub turn_unpaid : {next : DeskState V} {u : Spoken} {e : ExpandNo} {r : Result (List ℕ) ExpandNo} → i < length words → IsErrAnd r (λ x. x ≡ e) → Does is_free tells here next t u (Err e) (pay 1) → Does is_free tells first next s u r whole
    turn_unpaid lt is p = stop_s _ (rw (next_text words i (record { ref_ptr = (0, 0); now = [] }) lt) at inv) is p

    pub turn_lost : {next : DeskState V} {u : Spoken} {e : ExpandNo} {x : List ℕ} {r : Result (List ℕ) ExpandNo} → i < length words → Does is_free tells here next t u (Ok tt) (pay 1)
        → (is_free e ≡ false → Err e ≡ Ok x) → IsErrAnd r (λ x. x ≡ e) → Does is_free tells first next s u r whole
    turn_lost {e = e} {x = x} lt p k is = end_s (rw (next_text words i (record { ref_ptr = (0, 0); now = [] }) lt) at inv) (then_s _ p (out_s e (freed (is_free e) (λ h. let never : Err e ≡ Ok x = k h in cc)) is))

    pub turn_stop : {mid next : DeskState V} {u v : Spoken} {e : ExpandNo} {begun : List ℕ} {r : Result (List ℕ) ExpandNo} (d : Bor (List ℕ)) → i < length words → Does is_free tells here mid t u (Ok tt) (pay 1) → begun ≡ out ++ gap
        → IsErrAnd r (λ x. x ≡ e) → Does is_free tells mid next u v (Err e) (deeper (each name (get_or words i d).now ∷ frames) text begun) → Does is_free tells first next s v r whole
    turn_stop d lt p e is q = end_s (rw (next_text words i d lt) at inv) (then_s _ p (leave_s _ is (rw e at q)))

    pub turn_more : {mid next : DeskState V} {u v : Spoken} {begun all : List ℕ} (d : Bor (List ℕ)) → i < length words → Does is_free tells here mid t u (Ok tt) (pay 1) → begun ≡ out ++ gap
        → Does is_free tells mid next u v (Ok all) (deeper (each name (get_or words i d).now ∷ frames) text begun) → Goes is_free tells first next s v whole (turns deeper frames name text (map (λ w. w.now) (drop (i + 1) words)) (32 ∷ []) all)
    turn_more d lt p e q = more_s _ (more_s _ (rw (next_text words i d lt) at inv) p) (rw e at q)

    pub turn_end : length words ≤ i → Does is_free tells first here s t (Ok out) whole
    turn_end le = end_s (rw (none_at words i le) at inv) finish_s

-- all arguments
module _ {V : Type 0} {tells : V → Told} {first here : DeskState V} {s t : Spoken} {whole : Says (List (List ℕ))} (deeper : Deeper) (frames : List Frame) (args : List (Bor (List ℕ))) (i : ℕ) (so_far : List (List ℕ))
    (inv : Goes is_free tells first here s t whole (arguments deeper frames (map (λ a. a.now) (drop i args)) so_far)) where
  pub argument_stop : {next : DeskState V} {u : Spoken} {e : ExpandNo} {r : Result (List (List ℕ)) ExpandNo} (d : Bor (List ℕ)) → i < length args → IsErrAnd r (λ x. x ≡ e) → Does is_free tells here next t u (Err e) (deeper frames (get_or args i d).now [])
      → Does is_free tells first next s u r whole
  argument_stop d lt is p = stop_s _ (rw (next_text args i d lt) at inv) is p

  pub argument_lost : {next : DeskState V} {u : Spoken} {value : List ℕ} {r : Result (List (List ℕ)) ExpandNo} (d : Bor (List ℕ)) → i < length args → Does is_free tells here next t u (Ok value) (deeper frames (get_or args i d).now []) → IsErrAnd r (λ x. x ≡ no.NoMemory)
      → Does is_free tells first next s u r whole
  argument_lost d lt p is = end_s (rw (next_text args i d lt) at inv) (then_s _ p (out_s no.NoMemory refl is))

  pub argument_more : {next : DeskState V} {u : Spoken} {value : List ℕ} {all : List (List ℕ)} (d : Bor (List ℕ)) → i < length args → Does is_free tells here next t u (Ok value) (deeper frames (get_or args i d).now []) → all ≡ so_far ++ value ∷ []
      → Goes is_free tells first next s u whole (arguments deeper frames (map (λ a. a.now) (drop (i + 1) args)) all)
  argument_more d lt p e = rw e (more_s _ (rw (next_text args i d lt) at inv) p)

  pub argument_end : length args ≤ i → Does is_free tells first here s t (Ok so_far) whole
  argument_end le = end_s (rw (none_at args i le) at inv) finish_s

-- ---- enough arguments that aren't expanded

module _ {V : Type 0} {tells : V → Told} (row : Row) (args : List (Bor (List ℕ))) where
  pub few_args : {d : DeskState V} {s : Spoken} {f : ExpandNo} (m : Says (List ℕ)) → length args < row.least → (is_free f ≡ false → f ≡ no.BadArgument row.name) → Does is_free tells d d s s (Err f) (enough row (map (λ a. a.now) args) m)
  few_args m lt is = few_s row (map (λ a. a.now) args) m (rw (length-map args (λ a. a.now)) lt) is

  pub enough_args : {old new : DeskState V} {s u : Spoken} {r : Result (List ℕ) ExpandNo} {m : Says (List ℕ)} → row.least ≤ length args → Does is_free tells old new s u r m → Does is_free tells old new s u r (enough row (map (λ a. a.now) args) m)
  enough_args le p = enough_s row (map (λ a. a.now) args) (rw (length-map args (λ a. a.now)) le) p
