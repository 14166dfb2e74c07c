-- Scripts of one shape begin a make within a make alike: they have forms of one shape, and of those
-- one thing is heard.
use Rattle.std.proofs.Common.{◌≡◌, ◌∙◌, ℕ, zero, suc, Bool, true, false, List, [], ◌∷◌, length, map, Option, Some, None, refl, sym, ap, arith}
use Rattle.std.specs.Prelude.{◌==◌, ◌&&◌, ◌||◌, codes, if◌then◌else◌}
use Rattle.std.specs.Option.{option_map}
use Rattle.em_view.specs.Actions.{spend}
use Rattle.em_view.specs.Steps.{own, below}
use Rattle.em_view.specs.Do.{◌>>=◌}
use Rattle.em_syntax.specs.declared.tree.Command.TheOpen.{Command-F}
use Rattle.em_syntax.specs.declared.tree.Script.{Script, out-Script}
use Rattle.em_syntax.specs.declared.tree.AndOr.{AndOr, out-AndOr}
use Rattle.em_syntax.specs.declared.tree.Joined.{Joined, out-Joined}
use Rattle.em_syntax.specs.declared.tree.Pipeline.{Pipeline, out-Pipeline}
use Rattle.em_syntax.specs.declared.tree.Command.{Command, out-Command}
use Rattle.em_syntax.specs.declared.tree.Simple.{Simple, out-Simple}
use Rattle.em_syntax.specs.declared.tree.Word.{Word, out-Word}
use Rattle.em_syntax.specs.declared.tree.WordPiece.{WordPiece}
use Rattle.em_syntax.specs.Texts.{bytes_what, bytes_in}
use Rattle.em_gram.specs.Same.{Shape, pair, bytes, variant, row, script_shape, and_or_shape, joined_shape, pipeline_shape, command_shape, simple_shape, assigned_shape, redirect_shape, word_shape, piece_shape}
use Rattle.em_gram.proofs.Shapes.{script_shape_is, and_or_shape_is, joined_shape_is, pipeline_shape_is, simple_shape_is, word_shape_is}
use Rattle.em_command.specs.declared.here.Scene.{Scene}
use Rattle.em_command.specs.Jumps.{Acts, of_desk}
use Rattle.em_command.specs.Heres.{begun}
use Rattle.em_command.specs.Streams.{around}
use Rattle.em_exec.specs.Literals.{is_text}
use Rattle.em_exec.specs.Words.{Deeper, in_copy}
use Rattle.em_exec.specs.Running.{CommandBody, unsubstituted, if_some, of_words, script_at}
use Rattle.em_exec.specs.Subs.{followed, written_in, written, begins_with_make, is_cd, is_bare, simple_by, stage_of, one_command, such, command_alone, SubForm, Alone, Behind, behind, form_by, form_in, sub_form}
use Rattle.em_exec.specs.Subs.{enter, fields_in, charged, told, if_there, inside, ordinary, by_fields, heard, closed_with, words_of}
use Rattle.em_script.proofs.Shaped.{first_same, second_same, inner_same, place_same, flag_same, in_pairs}
use Rattle.em_script.proofs.Words.{View, text, value, argument, end, output, view}
use Rattle.em_script.proofs.Alike.{command_by_variant, command_is, fields_alike, redirects_alike, act_alike, joined_one_alike, scripts_alike}

-- ---- what stands in a line

-- the bytes of a piece, by its shape
abbrev bytes_shaped : Shape → Option (List ℕ)
bytes_shaped (pair q (variant zero (bytes t))) = Some t
bytes_shaped _ = None

bytes_by_shape : (p : WordPiece) → bytes_in p ≡ bytes_shaped (piece_shape p)
bytes_by_shape p = at (view p)
  where
    at : View p → bytes_in p ≡ bytes_shaped (piece_shape p)
    at (text t s m) = ap bytes_what m ∙ sym (ap bytes_shaped s)
    at (value v s m) = ap bytes_what m ∙ sym (ap bytes_shaped s)
    at (argument v s m) = ap bytes_what m ∙ sym (ap bytes_shaped s)
    at (end s m) = ap bytes_what m ∙ sym (ap bytes_shaped s)
    at (output x s m) = ap bytes_what m ∙ sym (ap bytes_shaped s)

bytes_alike : (p q : WordPiece) → piece_shape p ≡ piece_shape q → bytes_in p ≡ bytes_in q
bytes_alike p q e = bytes_by_shape p ∙ ap bytes_shaped e ∙ sym (bytes_by_shape q)

pieces_written : (ps qs : List WordPiece) → row (map piece_shape ps) ≡ row (map piece_shape qs) → written_in ps ≡ written_in qs
pieces_written = in_pairs piece_shape (λ ps qs. written_in ps ≡ written_in qs) refl (λ p q ps qs e k. λ i. followed (bytes_alike p q e i) (k i))

written_alike : (v w : Word) → word_shape v ≡ word_shape w → written v ≡ written w
written_alike v w e = pieces_written (out-Word v).pieces.items (out-Word w).pieces.items (sym (word_shape_is v) ∙ e ∙ word_shape_is w)

make_alike : (xs ys : List Word) → row (map word_shape xs) ≡ row (map word_shape ys) → begins_with_make xs ≡ begins_with_make ys
make_alike = in_pairs word_shape (λ xs ys. begins_with_make xs ≡ begins_with_make ys) refl
    (λ x y xs ys e k. λ i. is_text (codes "emake") (written_alike x y e i) || is_text (codes "make") (written_alike x y e i))

cd_alike : (xs ys : List Word) → row (map word_shape xs) ≡ row (map word_shape ys) → is_cd xs ≡ is_cd ys
cd_alike [] [] e = refl
cd_alike (x ∷ []) (y ∷ []) e = refl
cd_alike (x ∷ v ∷ []) (y ∷ w ∷ []) e = λ i. is_text (codes "cd") (written_alike x y (first_same e) i)
cd_alike (x ∷ v ∷ a ∷ xs) (y ∷ w ∷ b ∷ ys) e = refl
cd_alike xs ys e = absurd cc

-- ---- the commands of a form

abbrev shape_of : Option Simple → Option Shape
shape_of = option_map simple_shape

some_same : {a b : Shape} → Some a ≡ Some b → a ≡ b
some_same e = cc

lengths : {X : Type 0} (shape : X → Shape) (xs ys : List X) → row (map shape xs) ≡ row (map shape ys) → length xs ≡ length ys
lengths shape = in_pairs shape (λ xs ys. length xs ≡ length ys) refl (λ x y xs ys e k. ap suc k)

bare_alike : (c d : Simple) → simple_shape c ≡ simple_shape d → is_bare c ≡ is_bare d
bare_alike c d e =
    let h = sym (simple_shape_is c) ∙ e ∙ simple_shape_is d in
    λ i. (lengths assigned_shape (out-Simple c).assigned.items (out-Simple d).assigned.items (first_same h) i == 0) && (lengths redirect_shape (out-Simple c).redirects.items (out-Simple d).redirects.items (second_same (second_same h)) i == 0)

-- what is kept by equal conditions
kept : {X : Type 0} (shape : X → Shape) (a b : Bool) → a ≡ b → (x y : X) → shape x ≡ shape y → option_map shape (if a then Some x else None) ≡ option_map shape (if b then Some y else None)
kept shape true true h x y e = ap Some e
kept shape false false h x y e = refl
kept shape true false h x y e = absurd cc
kept shape false true h x y e = absurd cc

unless_alike : (a b : Bool) → a ≡ b → (o p : Option Simple) → shape_of o ≡ shape_of p → shape_of (if a then None else o) ≡ shape_of (if b then None else p)
unless_alike true true h o p e = refl
unless_alike false false h o p e = e
unless_alike true false h o p e = absurd cc
unless_alike false true h o p e = absurd cc

stage_alike : (xs ys : List Command) → row (map command_shape xs) ≡ row (map command_shape ys) → shape_of (stage_of xs) ≡ shape_of (stage_of ys)
stage_alike [] [] e = refl
stage_alike (c ∷ []) (d ∷ []) e = at (out-Command c) (out-Command d) (sym (command_is c) ∙ first_same e ∙ command_is d)
  where
    at : (x y : CommandBody) → command_by_variant x ≡ command_by_variant y → shape_of (simple_by x) ≡ shape_of (simple_by y)
    at (Command-F.Simple a) (Command-F.Simple b) h = ap Some (inner_same h)
    at (Command-F.Compound a rs) (Command-F.Compound b ss) h = refl
    at x y h = absurd (omega (arith, place_same h))
stage_alike (c ∷ x ∷ xs) (d ∷ y ∷ ys) e = refl
stage_alike xs ys e = absurd cc

one_alike : (p q : Pipeline) → pipeline_shape p ≡ pipeline_shape q → shape_of (one_command p) ≡ shape_of (one_command q)
one_alike p q e =
    let h = sym (pipeline_shape_is p) ∙ e ∙ pipeline_shape_is q in
    let a = (out-Pipeline p).stages.items in
    let b = (out-Pipeline q).stages.items in
    unless_alike (out-Pipeline p).not (out-Pipeline q).not (flag_same (first_same h)) (stage_of a) (stage_of b) (stage_alike a b (second_same h))

module _ (is : List Word → Bool) (told_alike : (xs ys : List Word) → row (map word_shape xs) ≡ row (map word_shape ys) → is xs ≡ is ys) where
  such_alike : (o p : Option Simple) → shape_of o ≡ shape_of p → shape_of (such is o) ≡ shape_of (such is p)
  such_alike None None e = refl
  such_alike (Some c) (Some d) e =
      let s = some_same e in
      let h = sym (simple_shape_is c) ∙ s ∙ simple_shape_is d in
      kept simple_shape (is_bare c && is (out-Simple c).words.items) (is_bare d && is (out-Simple d).words.items)
      (λ i. bare_alike c d s i && told_alike (out-Simple c).words.items (out-Simple d).words.items (first_same (second_same h)) i) c d s
  such_alike None (Some d) e = absurd cc
  such_alike (Some c) None e = absurd cc

  alone_alike : (p q : Pipeline) → pipeline_shape p ≡ pipeline_shape q → shape_of (command_alone is p) ≡ shape_of (command_alone is q)
  alone_alike p q e = such_alike (one_command p) (one_command q) (one_alike p q e)

-- ---- forms

abbrev form_shape : SubForm → Shape
form_shape (Alone c) = variant 0 (simple_shape c)
form_shape (Behind c j m) = variant 1 (pair (simple_shape c) (pair (joined_shape j) (simple_shape m)))

alone_form : (o p : Option Simple) → shape_of o ≡ shape_of p → option_map form_shape (option_map Alone o) ≡ option_map form_shape (option_map Alone p)
alone_form None None e = refl
alone_form (Some c) (Some d) e = ap (λ (x : Shape). Some (variant 0 x)) (some_same e)
alone_form None (Some d) e = absurd cc
alone_form (Some c) None e = absurd cc

behind_form : (j k : Joined) → joined_shape j ≡ joined_shape k → (o p m n : Option Simple) → shape_of o ≡ shape_of p → shape_of m ≡ shape_of n → option_map form_shape (behind j o m) ≡ option_map form_shape (behind k p n)
behind_form j k e (Some c) (Some d) (Some a) (Some b) f g =
    let h = sym (joined_shape_is j) ∙ e ∙ joined_shape_is k in
    kept form_shape (out-Joined j).and (out-Joined k).and (flag_same (first_same h)) (Behind c j a) (Behind d k b) (λ i. variant 1 (pair (some_same f i) (pair (e i) (some_same g i))))
behind_form j k e None None m n f g = refl
behind_form j k e (Some c) (Some d) None None f g = refl
behind_form j k e None (Some d) m n f g = absurd cc
behind_form j k e (Some c) None m n f g = absurd cc
behind_form j k e (Some c) (Some d) None (Some b) f g = absurd cc
behind_form j k e (Some c) (Some d) (Some a) None f g = absurd cc

joined_form : (p q : Pipeline) → pipeline_shape p ≡ pipeline_shape q → (xs ys : List Joined) → row (map joined_shape xs) ≡ row (map joined_shape ys) → option_map form_shape (form_by p xs) ≡ option_map form_shape (form_by q ys)
joined_form p q e [] [] d = alone_form (command_alone begins_with_make p) (command_alone begins_with_make q) (alone_alike begins_with_make make_alike p q e)
joined_form p q e (j ∷ []) (k ∷ []) d =
    let m = (out-Joined j).next in
    let n = (out-Joined k).next in
    behind_form j k (first_same d) (command_alone is_cd p) (command_alone is_cd q) (command_alone begins_with_make m) (command_alone begins_with_make n) (alone_alike is_cd cd_alike p q e)
    (alone_alike begins_with_make make_alike m n (second_same (sym (joined_shape_is j) ∙ first_same d ∙ joined_shape_is k)))
joined_form p q e (j ∷ x ∷ xs) (k ∷ y ∷ ys) d = refl
joined_form p q e xs ys d = absurd cc

list_form : (xs ys : List AndOr) → row (map and_or_shape xs) ≡ row (map and_or_shape ys) → option_map form_shape (form_in xs) ≡ option_map form_shape (form_in ys)
list_form [] [] e = refl
list_form (a ∷ []) (b ∷ []) e =
    let h = sym (and_or_shape_is a) ∙ first_same e ∙ and_or_shape_is b in
    joined_form (out-AndOr a).first (out-AndOr b).first (first_same h) (out-AndOr a).rest.items (out-AndOr b).rest.items (second_same h)
list_form (a ∷ x ∷ xs) (b ∷ y ∷ ys) e = refl
list_form xs ys e = absurd cc

form_alike : (s t : Script) → script_shape s ≡ script_shape t → option_map form_shape (sub_form s) ≡ option_map form_shape (sub_form t)
unfolding sub_form
form_alike s t e = list_form (out-Script s).list.items (out-Script t).list.items (sym (script_shape_is s) ∙ e ∙ script_shape_is t)

-- ---- what is heard

-- two commands one after the other, and what follows them
both_alike : {A B C : Type 0} {m n : Acts A} {p q : Acts B} (k : B → Acts C) → m ≡ n → p ≡ q → (m >>= (λ u. p >>= k)) ≡ (n >>= (λ u. q >>= k))
both_alike k e f = λ i. e i >>= (λ u. f i >>= k)

module _ (deeper : Deeper) (H : (s t : Script) → script_shape s ≡ script_shape t → deeper s ≡ deeper t) (scene : Scene) where
  words_in_alike : (c d : Simple) → simple_shape c ≡ simple_shape d → fields_in deeper scene c ≡ fields_in deeper scene d
  unfolding fields_in
  words_in_alike c d e =
      let h = sym (simple_shape_is c) ∙ e ∙ simple_shape_is d in
      λ i. own unsubstituted >>= (λ u. fields_alike deeper H scene (out-Simple c).words.items (out-Simple d).words.items (first_same (second_same h)) [] i)

  charged_alike : (c d : Simple) → simple_shape c ≡ simple_shape d → charged deeper scene c ≡ charged deeper scene d
  unfolding charged
  charged_alike c d e = λ i. below of_desk (spend 1) >>= (λ u. words_in_alike c d e i)

  there_alike : (name : List ℕ) (c d : Simple) → simple_shape c ≡ simple_shape d → (there : Bool) → if_there deeper scene name c there ≡ if_there deeper scene name d there
  there_alike name c d e true = λ i. words_in_alike c d e i >>= told deeper scene
  there_alike name c d e false = refl

  inside_alike : (name : List ℕ) (c d : Simple) → simple_shape c ≡ simple_shape d → inside deeper scene name c ≡ inside deeper scene name d
  unfolding inside
  inside_alike name c d e = λ i. below of_desk (spend 1) >>= (λ u. enter name >>= (λ there. there_alike name c d e there i))

  of_words_alike : (c d : Simple) → simple_shape c ≡ simple_shape d → (words : List (List ℕ)) → of_words deeper scene c words ≡ of_words deeper scene d words
  of_words_alike c d e words =
      let h = sym (simple_shape_is c) ∙ e ∙ simple_shape_is d in
      λ i. redirects_alike deeper H scene (out-Simple c).redirects.items (out-Simple d).redirects.items (second_same (second_same h)) i around
      >>= (λ s. if_some s (act_alike deeper H scene (out-Simple c).assigned.items (out-Simple d).assigned.items (first_same h) i words))

  ordinary_alike : (c d : Simple) → simple_shape c ≡ simple_shape d → (words : List (List ℕ)) (j k : Joined) → joined_shape j ≡ joined_shape k → ordinary deeper scene c words j ≡ ordinary deeper scene d words k
  unfolding ordinary
  ordinary_alike c d e words j k f = both_alike _ (of_words_alike c d e words) (joined_one_alike deeper H scene j k f)

  behind_alike : (c d : Simple) → simple_shape c ≡ simple_shape d → (j k : Joined) → joined_shape j ≡ joined_shape k → (m n : Simple) → simple_shape m ≡ simple_shape n → (words : List (List ℕ)) → by_fields deeper scene c j m words ≡ by_fields deeper scene d k n words
  behind_alike c d e j k f m n g [] = ordinary_alike c d e [] j k f
  behind_alike c d e j k f m n g (x ∷ []) = ordinary_alike c d e (x ∷ []) j k f
  behind_alike c d e j k f m n g (x ∷ name ∷ []) = inside_alike name m n g
  behind_alike c d e j k f m n g (x ∷ y ∷ z ∷ more) = ordinary_alike c d e (x ∷ y ∷ z ∷ more) j k f

  heard_alike : (f g : SubForm) → form_shape f ≡ form_shape g → heard deeper scene f ≡ heard deeper scene g
  heard_alike (Alone c) (Alone d) e = λ i. charged_alike c d (inner_same e) i >>= told deeper scene
  heard_alike (Behind c j m) (Behind d k n) e =
      let h = inner_same e in
      λ i. charged_alike c d (first_same h) i >>= (λ words. behind_alike c d (first_same h) j k (first_same (second_same h)) m n (second_same (second_same h)) words i)
  heard_alike (Alone c) (Behind d k n) e = absurd (omega (arith, place_same e))
  heard_alike (Behind c j m) (Alone d) e = absurd (omega (arith, place_same e))

words_of_alike : (f g : SubForm) → form_shape f ≡ form_shape g → words_of f ≡ words_of g
unfolding words_of
words_of_alike f g e =
    let h = heard_alike (script_at 64) (scripts_alike 64) (in_copy []) f g e in
    λ i. λ s o w. (closed_with s (h i (begun s.shell) o w).0, (h i (begun s.shell) o w).1)

pub subs_alike : (s t : Script) → script_shape s ≡ script_shape t → option_map words_of (sub_form s) ≡ option_map words_of (sub_form t)
subs_alike s t e = at (sub_form s) (sub_form t) (form_alike s t e)
  where
    at : (o p : Option SubForm) → option_map form_shape o ≡ option_map form_shape p → option_map words_of o ≡ option_map words_of p
    at None None h = refl
    at (Some f) (Some g) h = ap Some (words_of_alike f g (some_same h))
    at None (Some g) h = absurd cc
    at (Some f) None h = absurd cc
