-- What a part of a report may be, and what it is to read one from the left.
--     Lang A               the values of a part, their texts, and the bytes that may follow a text; 0 stands for the end
--     Reads L h r          r is what reading the part L from h gives: its only value, or the first byte at which none goes on
--     then_reads           a part, and what is left of a greater one behind it
use Rattle.std.proofs.Common.{◌≡◌, ℕ, ◌+◌, Bool, true, List, [], ◌∷◌, ◌++◌, length, length-append, Result, Ok, Err, refl, sym, ap, subst, ◌∙◌, append_assoc, arith}
use Rattle.std.proofs.lemmas.List.{append_cancel_left, append-nil}
use Rattle.em_report.specs.Parts.{◌>>=◌, Here, here}
use Rattle.em_report.specs.Reading.{next}

pub record Lang (A : Type 0) : Type 1 where
  pub valid : A → Type 0
  pub text : A → List ℕ
  pub follow : ℕ → Bool

-- x is the only value whose text, with what may follow it, goes along what was taken and the byte
-- behind it
pub record Took {A : Type 0} (L : Lang A) (h : Here) (x : A) (k : Here) : Type 0 where
  pub valid : L.valid x
  pub taken : h.rest ≡ L.text x ++ k.rest
  pub place : k.at ≡ h.at + length (L.text x)
  pub only : (y : A) → L.valid y → (a w : List ℕ) → L.follow (next a) ≡ true → L.text y ++ a ≡ L.text x ++ next k.rest ∷ w → y ≡ x

-- some text goes on behind the front, and none with the byte that stands there
pub record Stuck {A : Type 0} (L : Lang A) (h : Here) (at : ℕ) : Type 0 where
  pub front : List ℕ
  pub left : List ℕ
  pub taken : h.rest ≡ front ++ left
  pub place : at ≡ h.at + length front
  pub value : A
  pub valid : L.valid value
  pub more : List ℕ
  pub goes : L.text value ≡ front ++ more
  pub none : (y : A) → L.valid y → (a w : List ℕ) → L.follow (next a) ≡ true → L.text y ++ a ≡ front ++ next left ∷ w → ⊥

abbrev pub Reads : {A : Type 0} → Lang A → Here → Result (A × Here) ℕ → Type 0
Reads L h (Ok x) = Took L h x.0 x.1
Reads L h (Err at) = Stuck L h at

-- the byte behind a front, from where the front begins
heads : (f left w : List ℕ) → (v : List ℕ) × (f ++ next left ∷ w ≡ next (f ++ left) ∷ v)
heads [] left w = (w, refl)
heads (c ∷ f) left w = (f ++ next left ∷ w, refl)

-- a value of R is one of P, and one of S at it behind that
pub record Joint {A B : Type 0} (P : Lang A) (R : Lang B) (S : A → Lang B) : Type 0 where
  pub split : (y : B) → R.valid y → (x : A) × P.valid x × (S x).valid y
  pub join : (x : A) (y : B) → P.valid x → (S x).valid y → R.valid y × (R.text y ≡ P.text x ++ (S x).text y)
  pub some : (x : A) → P.valid x → (y : B) × (S x).valid y
  pub after : (x : A) (y : B) (a : List ℕ) → P.valid x → (S x).valid y → R.follow (next a) ≡ true → ((S x).follow (next a) ≡ true) × (P.follow (next ((S x).text y ++ a)) ≡ true)

-- the parts of a text of R that goes along a front
parted : {A B : Type 0} (P : Lang A) (R : Lang B) (S : A → Lang B) → Joint P R S → (x : A) (y : B) → P.valid x → (S x).valid y → (a t : List ℕ) → R.text y ++ a ≡ t → P.text x ++ ((S x).text y ++ a) ≡ t
parted P R S j x y v s a t e = sym (append_assoc (P.text x) ((S x).text y) a) ∙ ap (λ (u : List ℕ). u ++ a) (sym (j.join x y v s).1) ∙ e

-- behind x, what goes along x and a front of the rest goes along that front
behind : {A B : Type 0} (P : Lang A) (R : Lang B) (S : A → Lang B) → Joint P R S → (h k : Here) (x : A) → Took P h x k → (f left : List ℕ) → k.rest ≡ f ++ left
    → (z : B) → R.valid z → (a w : List ℕ) → R.follow (next a) ≡ true → R.text z ++ a ≡ P.text x ++ (f ++ next left ∷ w)
    → (S x).valid z × ((S x).follow (next a) ≡ true) × ((S x).text z ++ a ≡ f ++ next left ∷ w)
behind P R S j h k x took f left rest z v a w g e =
    let s = j.split z v in
    let b = heads f left w in
    let along : P.text s.0 ++ ((S s.0).text z ++ a) ≡ P.text x ++ next k.rest ∷ b.0 =
    parted P R S j s.0 z s.1 s.2 a (P.text x ++ (f ++ next left ∷ w)) e ∙ ap (λ (u : List ℕ). P.text x ++ u) (b.1 ∙ ap (λ (r : List ℕ). next r ∷ b.0) (sym rest)) in
    let same : s.0 ≡ x = took.only s.0 s.1 ((S s.0).text z ++ a) b.0 (j.after s.0 z a s.1 s.2 g).1 along in
    let there : (S x).valid z = subst (λ q. (S q).valid z) same s.2 in
    (there, (j.after x z a took.valid there g).0, append_cancel_left (P.text x) _ _ (parted P R S j x z took.valid there a (P.text x ++ (f ++ next left ∷ w)) e))

took_then : {A B : Type 0} (P : Lang A) (R : Lang B) (S : A → Lang B) → Joint P R S → (h k : Here) (x : A) → Took P h x k → (r : Result (B × Here) ℕ) → Reads (S x) k r → Reads R h r
took_then P R S j h k x took (Ok (y, i)) t =
    let whole = j.join x y took.valid t.valid in
    let long : length (R.text y) ≡ length (P.text x) + length ((S x).text y) = ap length whole.1 ∙ length-append (P.text x) ((S x).text y) in
    record {
      valid = whole.0;
      taken = took.taken ∙ ap (λ (u : List ℕ). P.text x ++ u) t.taken ∙ sym (append_assoc (P.text x) ((S x).text y) i.rest) ∙ ap (λ (u : List ℕ). u ++ i.rest) (sym whole.1);
      place = omega (arith, t.place, took.place, long);
      only = λ z v a w g e.
          let along = e ∙ ap (λ (u : List ℕ). u ++ next i.rest ∷ w) whole.1 ∙ append_assoc (P.text x) ((S x).text y) (next i.rest ∷ w) in
          let b = behind P R S j h k x took ((S x).text y) i.rest t.taken z v a w g along in
          t.only z b.0 a w b.1 b.2;
    }
took_then P R S j h k x took (Err at) t =
    let whole = j.join x t.value took.valid t.valid in
    record {
      front = P.text x ++ t.front;
      left = t.left;
      taken = took.taken ∙ ap (λ (u : List ℕ). P.text x ++ u) t.taken ∙ sym (append_assoc (P.text x) t.front t.left);
      place = omega (arith, t.place, took.place, length-append (P.text x) t.front);
      value = t.value;
      valid = whole.0;
      more = t.more;
      goes = whole.1 ∙ ap (λ (u : List ℕ). P.text x ++ u) t.goes ∙ sym (append_assoc (P.text x) t.front t.more);
      none = λ z v a w g e.
          let b = behind P R S j h k x took t.front t.left t.taken z v a w g (e ∙ append_assoc (P.text x) t.front (next t.left ∷ w)) in
          t.none z b.0 a w b.1 b.2;
    }

pub then_reads : {A B : Type 0} (P : Lang A) (R : Lang B) (S : A → Lang B) → Joint P R S → (h : Here) (r : Result (A × Here) ℕ) (f : A × Here → Result (B × Here) ℕ)
    → Reads P h r → ((x : A) (k : Here) → Took P h x k → Reads (S x) k (f (x, k))) → Reads R h (r >>= f)
then_reads P R S j h (Ok (x, k)) f took go = took_then P R S j h k x took (f (x, k)) (go x k took)
then_reads P R S j h (Err at) f stuck go =
    let y = j.some stuck.value stuck.valid in
    let whole = j.join stuck.value y.0 stuck.valid y.1 in
    record {
      front = stuck.front;
      left = stuck.left;
      taken = stuck.taken;
      place = stuck.place;
      value = y.0;
      valid = whole.0;
      more = stuck.more ++ (S stuck.value).text y.0;
      goes = whole.1 ∙ ap (λ (u : List ℕ). u ++ (S stuck.value).text y.0) stuck.goes ∙ append_assoc stuck.front stuck.more ((S stuck.value).text y.0);
      none = λ z v a w g e.
          let s = j.split z v in
          stuck.none s.0 s.1 ((S s.0).text z ++ a) w (j.after s.0 z a s.1 s.2 g).1 (parted P R S j s.0 z s.1 s.2 a (stuck.front ++ next stuck.left ∷ w) e);
    }

-- ---- ends

-- nothing is left to read of the only value
pub done : {A : Type 0} (L : Lang A) (x : A) (k : Here) → L.valid x → L.text x ≡ [] → ((y : A) → L.valid y → y ≡ x) → Took L k x k
done L x k v empty one = record { valid = v; taken = ap (λ (t : List ℕ). t ++ k.rest) (sym empty); place = omega (arith, ap length empty); only = λ y w a b g e. one y w }

-- no value begins with the byte that stands there
pub stuck_here : {A : Type 0} (L : Lang A) (h : Here) (x : A) → L.valid x → ((y : A) → L.valid y → (a w : List ℕ) → L.follow (next a) ≡ true → L.text y ++ a ≡ next h.rest ∷ w → ⊥) → Stuck L h h.at
stuck_here L h x v none = record { front = []; left = h.rest; taken = refl; place = omega arith; value = x; valid = v; more = L.text x; goes = refl; none = none }

-- the one byte of a value that no other begins with
pub took_byte : {A : Type 0} (L : Lang A) (at c : ℕ) (cs : List ℕ) (x : A) → L.valid x → L.text x ≡ c ∷ [] → ((y : A) → L.valid y → (a w : List ℕ) → L.text y ++ a ≡ c ∷ w → y ≡ x)
    → Took L (here at (c ∷ cs)) x (here (at + 1) cs)
took_byte L at c cs x v is one = record {
  valid = v;
  taken = ap (λ (t : List ℕ). t ++ cs) (sym is);
  place = omega (arith, ap length is);
  only = λ y u a w g e. one y u a (next cs ∷ w) (e ∙ ap (λ (t : List ℕ). t ++ next cs ∷ w) is);
}

-- ---- other values

-- the values g x of another type
pub record Maps {A B : Type 0} (L : Lang A) (M : Lang B) (g : A → B) : Type 0 where
  pub from : (y : B) → M.valid y → (x : A) × L.valid x × (y ≡ g x)
  pub to : (x : A) → L.valid x → M.valid (g x) × (M.text (g x) ≡ L.text x)
  pub follow : (c : ℕ) → M.follow c ≡ true → L.follow c ≡ true

abbrev at_value : {A B : Type 0} → Lang B → (A → B) → A → Lang B
at_value M g x = record { valid = λ y. y ≡ g x; text = λ _. []; follow = M.follow }

pub map_reads : {A B : Type 0} (L : Lang A) (M : Lang B) (g : A → B) → Maps L M g → (h : Here) (r : Result (A × Here) ℕ) → Reads L h r → Reads M h (r >>= λ x. Ok (g x.0, x.1))
map_reads L M g m h r reads = then_reads L M (at_value M g) (record {
  split = λ y v. m.from y v;
  join = λ x y v e. let t = m.to x v in (subst (λ z. M.valid z) (sym e) t.0, ap M.text e ∙ t.1 ∙ sym (append-nil (L.text x)));
  some = λ x v. (g x, refl);
  after = λ x y a v e f. (f, m.follow (next a) f);
}) h r (λ x. Ok (g x.0, x.1)) reads (λ x k t. done (at_value M g x) (g x) k refl refl (λ y e. e))

-- those values alone that begin with the byte that stands there
abbrev pub Where : {A : Type 0} → Lang A → (A → Type 0) → Lang A
Where L Q = record { valid = λ x. L.valid x × Q x; text = L.text; follow = L.follow }

pub narrow_reads : {A : Type 0} (L : Lang A) (Q : A → Type 0) (h : Here) (r : Result (A × Here) ℕ) → ((y : A) → L.valid y → (a w : List ℕ) → L.follow (next a) ≡ true → L.text y ++ a ≡ next h.rest ∷ w → Q y) → Reads (Where L Q) h r → Reads L h r
narrow_reads L Q h (Ok (x, k)) all t = record {
  valid = t.valid.0;
  taken = t.taken;
  place = t.place;
  only = λ y v a w g e. let b = heads (L.text x) k.rest w in t.only y (v, all y v a b.0 g (e ∙ b.1 ∙ ap (λ (r : List ℕ). next r ∷ b.0) (sym t.taken))) a w g e;
}
narrow_reads L Q h (Err at) all t = record {
  front = t.front;
  left = t.left;
  taken = t.taken;
  place = t.place;
  value = t.value;
  valid = t.valid.0;
  more = t.more;
  goes = t.goes;
  none = λ y v a w g e. let b = heads t.front t.left w in t.none y (v, all y v a b.0 g (e ∙ b.1 ∙ ap (λ (r : List ℕ). next r ∷ b.0) (sym t.taken))) a w g e;
}

-- ---- fields

-- what is left of R, behind its field x
abbrev pub Rest : {A B : Type 0} → Lang B → (B → A) → (B → List ℕ) → A → Lang B
Rest R field text x = record { valid = λ y. R.valid y × (field y ≡ x); text = text; follow = R.follow }

pub record Field {A B : Type 0} (P : Lang A) (R : Lang B) (field : B → A) (text : B → List ℕ) : Type 0 where
  pub valid : (y : B) → R.valid y → P.valid (field y)
  pub parts : (y : B) → R.text y ≡ P.text (field y) ++ text y
  pub some : (x : A) → P.valid x → (y : B) × R.valid y × (field y ≡ x)
  pub after : (y : B) (a : List ℕ) → R.valid y → R.follow (next a) ≡ true → P.follow (next (text y ++ a)) ≡ true

pub field_reads : {A B : Type 0} (P : Lang A) (R : Lang B) (field : B → A) (text : B → List ℕ) → Field P R field text → (h : Here) (r : Result (A × Here) ℕ) (f : A × Here → Result (B × Here) ℕ)
    → Reads P h r → ((x : A) (k : Here) → Took P h x k → Reads (Rest R field text x) k (f (x, k))) → Reads R h (r >>= f)
field_reads P R field text d h r f = then_reads P R (λ x. Rest R field text x) (record {
  split = λ y v. (field y, d.valid y v, (v, refl));
  join = λ x y v s. (s.0, d.parts y ∙ ap (λ z. P.text z ++ text y) s.1);
  some = λ x v. let y = d.some x v in (y.0, (y.1, y.2));
  after = λ x y a v s g. (g, d.after y a s.0 g);
}) h r f

-- what was taken is no longer than what stood there
pub shorter : {A : Type 0} (L : Lang A) (h k : Here) (x : A) → Took L h x k → length k.rest + length (L.text x) ≡ length h.rest
shorter L h k x t = omega (arith, ap length t.taken, length-append (L.text x) k.rest)
