-- The attribute that Project gives under another path.
use Rattle.std.proofs.Common.{◌≡◌, ◌∙◌, ◌+◌, Bool, true, false, cond, ◌&&◌, ◌||◌, List, [], ◌∷◌, ◌++◌, length, map, drop, refl, sym, ap, arith, append-nil, Option, Some, if◌then◌else◌}
use Rattle.std.specs.Prelude.{nat_eq}
use Rattle.std.specs.List.{starts_with}
use Rattle.std.specs.Map.{lookup}
use Rattle.std.specs.Option.{unwrap_or}
use Rattle.std.specs.Str.{bytes_eq}
use Rattle.std.proofs.lemmas.Bool.{false≢true, and_parts}
use Rattle.std.proofs.lemmas.Bool.Decides.{Decides-eqb}
use Rattle.std.proofs.lemmas.List.{length-append, nil_from_length}
use Rattle.std.proofs.lemmas.List.Elements.{All-nil, All-cons}
use Rattle.std.proofs.lemmas.Slice.Eq.{bytes_eq-Decides}
use Rattle.control_vectors.specs.Slots.{Slot}
use Rattle.key_paths.specs.Substructures.{is_root, is_at_or_below, begins_segment_or_ends}
use Rattle.key_paths.proofs.Orders.{at_or_below_itself}
use Rattle.programs.specs.Mentions.{Label}
use Rattle.programs.specs.Moves.{stem, path_of, moved}
use Rattle.programs.specs.Vectors.{Attribute, Vector, slots_of}
use Rattle.voodoo_ops.specs.Attributes.{below, projected}
use Rattle.held_rows.specs.Held.{Held, column, Told, Holds}
use Rattle.held_rows.specs.Vectors.{IsNamed}
use Rattle.held_rows.proofs.Upserted.{not_true}

-- ---- paths that are not the root

not_root : (p : Label) → IsNamed p → is_root p ≡ false
not_root p h =
    not_true (is_root p)
    (λ e. let same : p ≡ 46 ∷ [] = (bytes_eq-Decides p (46 ∷ [])).0 e in
    let short : length p ≡ 1 = ap (λ (l : Label). length l) same in
    absurd (omega (arith, h, short)))

stem_is : (p : Label) → IsNamed p → stem p ≡ p
stem_is p h = ap (λ (b : Bool). if b then [] else p) (not_root p h)

path_is : (q rest : Label) → IsNamed q → path_of (q ++ rest) ≡ q ++ rest
path_is [] rest h = absurd (omega (arith, h))
path_is (b ∷ q) rest h = refl

moved_is : (p q x : Label) → IsNamed p → IsNamed q → IsNamed x → moved p q x ≡ q ++ drop (length p) x
moved_is p q x hp hq hx =
    ap (λ (l : Label). path_of (l ++ drop (length (stem p)) (stem x))) (stem_is q hq)
    ∙ ap (λ (l : Label). path_of (q ++ drop (length l) (stem x))) (stem_is p hp)
    ∙ ap (λ (l : Label). path_of (q ++ drop (length p) l)) (stem_is x hx) ∙ path_is q (drop (length p) x) hq

front_of : (text front : Label) → starts_with nat_eq text front ≡ true → text ≡ front ++ drop (length front) text
front_of text [] h = refl
front_of [] (y ∷ front) h = absurd cc
front_of (x ∷ text) (y ∷ front) h =
    let p = and_parts (nat_eq y x) (starts_with nat_eq text front) h in
    let first : x ≡ y = sym ((Decides-eqb y x).0 p.0) in
    let others = front_of text front p.1 in
    λ i. first i ∷ others i

begins : (p x : Label) → IsNamed p → is_at_or_below x p ≡ true → x ≡ p ++ drop (length p) x
begins p x hp b =
    let on : (starts_with nat_eq x p && begins_segment_or_ends (drop (length p) x)) ≡ true = sym (ap (λ (r : Bool). r || (starts_with nat_eq x p && begins_segment_or_ends (drop (length p) x))) (not_root p hp)) ∙ b in
    front_of x p (and_parts (starts_with nat_eq x p) (begins_segment_or_ends (drop (length p) x)) on).0

longer : (p x : Label) → IsNamed p → x ≡ p ++ drop (length p) x → IsNamed x
longer p x hp e =
    let long : length x ≡ length p + length (drop (length p) x) = ap (λ (l : Label). length l) e ∙ length-append p (drop (length p) x) in
    omega (arith, hp, long)

-- ---- a path is moved to q just where it is p

module _ (p q : Label) (hp : IsNamed p) (hq : IsNamed q) where
  moved_back : (x : Label) → is_at_or_below x p ≡ true → q ≡ moved p q x → p ≡ x
  moved_back x b e =
      let front = begins p x hp b in
      let whole : q ≡ q ++ drop (length p) x = e ∙ moved_is p q x hp hq (longer p x hp front) in
      let long : length q ≡ length q + length (drop (length p) x) = ap (λ (l : Label). length l) whole ∙ length-append q (drop (length p) x) in
      let none : drop (length p) x ≡ [] = nil_from_length (drop (length p) x) (omega (arith, long)) in
      sym (front ∙ ap (λ (l : Label). p ++ l) none ∙ append-nil p)

  moved_here : moved p q p ≡ q
  moved_here = moved_is p q p hp hq hp ∙ ap (λ (l : Label). q ++ l) (all_gone p) ∙ append-nil q
    where
      all_gone : (l : Label) → drop (length l) l ≡ []
      all_gone [] = refl
      all_gone (b ∷ l) = all_gone l

  same_test : (x : Label) → is_at_or_below x p ≡ true → bytes_eq q (moved p q x) ≡ bytes_eq p x
  same_test x b = by (bytes_eq p x) refl
    where
      by : (c : Bool) → bytes_eq p x ≡ c → bytes_eq q (moved p q x) ≡ c
      by true e = (bytes_eq-Decides q (moved p q x)).1 (sym moved_here ∙ ap (moved p q) ((bytes_eq-Decides p x).0 e))
      by false e = not_true (bytes_eq q (moved p q x)) (λ g. false≢true (sym e ∙ (bytes_eq-Decides p x).1 (moved_back x b ((bytes_eq-Decides q (moved p q x)).0 g))))

  other_test : (x : Label) → is_at_or_below x p ≡ false → bytes_eq p x ≡ false
  other_test x b = not_true (bytes_eq p x) (λ g. false≢true (sym b ∙ ap (λ (l : Label). is_at_or_below l p) (sym ((bytes_eq-Decides p x).0 g)) ∙ at_or_below_itself p))

  in_projected : (attributes : List Attribute) → lookup (bytes_eq q) (map (λ t. (moved p q t.0, t.1)) (below p attributes)) ≡ lookup (bytes_eq p) attributes
  in_projected [] = refl
  in_projected (t ∷ attributes) = by (is_at_or_below t.0 p) refl (in_projected attributes)
    where
      by : (b : Bool) → is_at_or_below t.0 p ≡ b → lookup (bytes_eq q) (map (λ u. (moved p q u.0, u.1)) (below p attributes)) ≡ lookup (bytes_eq p) attributes
          → lookup (bytes_eq q) (map (λ u. (moved p q u.0, u.1)) (cond b (t ∷ below p attributes) (below p attributes))) ≡ cond (bytes_eq p t.0) (Some t.1) (lookup (bytes_eq p) attributes)
      by true e h =
          let test = same_test t.0 e in
          λ i. cond (test i) (Some t.1) (h i)
      by false e h = h ∙ ap (λ (c : Bool). cond c (Some t.1) (lookup (bytes_eq p) attributes)) (sym (other_test t.0 e))

pub project_holds : {A : Type 0} (a : Vector) (p q : Label) (held : Held A) (f : A → Slot) → IsNamed p → IsNamed q → a.len ≡ length held → slots_of a.attributes p ≡ column f held → Holds (projected a p q) held ((q, f) ∷ [])
project_holds {A} a p q held f hp hq len e =
    record {
      len = len;
      each =
          All-cons (λ (t : Told A). slots_of (projected a p q).attributes t.0 ≡ column t.1 held) (q, f) []
          (ap (λ (o : Option (List Slot)). unwrap_or o []) (in_projected p q hp hq a.attributes) ∙ e)
          (All-nil (λ (t : Told A). slots_of (projected a p q).attributes t.0 ≡ column t.1 held));
    }
