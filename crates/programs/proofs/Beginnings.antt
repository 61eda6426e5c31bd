-- Paths with another beginning: they are apart, and in order, as they were.
use Rattle.std.proofs.Common.{◌≡◌, ℕ, zero, suc, ◌+◌, ◌<◌, ◌≤◌, Bool, true, false, ◌&&◌, not, List, [], ◌∷◌, ◌++◌, length, drop, refl, sym, ap, ◌∙◌, arith, append_assoc, length-append, if◌then◌else◌}
use Rattle.std.specs.Prelude.{nat_eq}
use Rattle.std.specs.List.{list_all, starts_with}
use Rattle.std.specs.Ordering.{nat_cmp}
use Rattle.std.specs.declared.cmp.Ordering.TheVariants.{Equal}
use Rattle.std.proofs.lemmas.Bool.{and_parts, false≢true}
use Rattle.std.proofs.lemmas.Bool.Decides.{nat_tests}
use Rattle.std.proofs.lemmas.List.Folds.{list_all-append}
use Rattle.key_paths.specs.Paths.{is_dot, begins_segment, is_in_segment, is_segment, dotted_text, path_text, IsPath}
use Rattle.key_paths.specs.Substructures.{is_root, begins_segment_or_ends, is_at_or_below, is_before}
use Rattle.key_paths.proofs.Orders.{goes_on}
use Rattle.key_paths.proofs.Texts.{not_dot_from_begins, not_dot_from_inside}
use Rattle.programs.specs.Mentions.{Label}
use Rattle.programs.specs.Moves.{stem, path_of, moved, is_deep}
use Rattle.programs.proofs.Depths.{few_segments, path_short}

-- ---- beginnings that are the same

same_test : (x : ℕ) → nat_eq x x ≡ true
same_test x = grind (arith, nat_tests)

same_byte : (x y : ℕ) → nat_eq x y ≡ true → x ≡ y
same_byte x y h = grind (arith, nat_tests)

same_order : (x : ℕ) → nat_cmp x x ≡ Equal
same_order x = grind (arith, nat_tests)

goes_on_behind : (a x y : List ℕ) → goes_on (a ++ x) (a ++ y) ≡ goes_on x y
goes_on_behind [] x y = refl
goes_on_behind (b ∷ a) x y = rw (same_test b) (goes_on_behind a x y)

before_behind : (a x y : List ℕ) → is_before (a ++ x) (a ++ y) ≡ is_before x y
before_behind [] x y = refl
before_behind (b ∷ a) x y = rw (same_order b) (before_behind a x y)

front_of : (text front : List ℕ) → starts_with nat_eq text front ≡ true → text ≡ front ++ drop (length front) text
front_of text [] h = refl
front_of [] (y ∷ front) h = absurd cc
front_of (x ∷ text) (y ∷ front) h =
    let p = and_parts (nat_eq y x) (starts_with nat_eq text front) h in
    ap (λ (l : List ℕ). x ∷ l) (front_of text front p.1) ∙ ap (λ (b : ℕ). b ∷ (front ++ drop (length front) text)) (sym (same_byte y x p.0))

-- ---- texts of segments

dotted_text-append : (a b : List (List ℕ)) → dotted_text (a ++ b) ≡ dotted_text a ++ dotted_text b
dotted_text-append [] b = refl
dotted_text-append (s ∷ a) b = ap (λ (l : List ℕ). 46 ∷ (s ++ l)) (dotted_text-append a b) ∙ ap (λ (l : List ℕ). 46 ∷ l) (sym (append_assoc s (dotted_text a) (dotted_text b)))

path_of-dotted_text : (ss : List (List ℕ)) → path_of (dotted_text ss) ≡ path_text ss
path_of-dotted_text [] = refl
path_of-dotted_text (s ∷ ss) = refl

not_root : (s : List ℕ) (ss : List (List ℕ)) → is_segment s ≡ true → is_root (dotted_text (s ∷ ss)) ≡ false
not_root [] ss h = absurd cc
not_root (x ∷ s) ss h = refl

stem-text : (ss : List (List ℕ)) → list_all is_segment ss ≡ true → stem (path_text ss) ≡ dotted_text ss
stem-text [] h = refl
stem-text (s ∷ ss) h = rw (not_root s ss (and_parts (is_segment s) (list_all is_segment ss) h).0) refl

below-text : (xs ys : List (List ℕ)) → list_all is_segment xs ≡ true → list_all is_segment ys ≡ true → is_at_or_below (path_text xs) (path_text ys) ≡ goes_on (dotted_text xs) (dotted_text ys)
below-text [] [] h k = refl
below-text (s ∷ xs) [] h k = refl
below-text [] ([] ∷ ys) h k = absurd cc
below-text [] ((b ∷ t) ∷ ys) h k = refl
below-text (s ∷ xs) (t ∷ ys) h k = rw (not_root t ys (and_parts (is_segment t) (list_all is_segment ys) k).0) refl

before-text : (xs ys : List (List ℕ)) → list_all is_segment xs ≡ true → list_all is_segment ys ≡ true → is_before (path_text xs) (path_text ys) ≡ is_before (dotted_text xs) (dotted_text ys)
before-text [] [] h k = refl
before-text ([] ∷ xs) [] h k = absurd cc
before-text ((b ∷ s) ∷ xs) [] h k = refl
before-text [] ([] ∷ ys) h k = absurd cc
before-text [] ((b ∷ t) ∷ ys) h k = refl
before-text (s ∷ xs) (t ∷ ys) h k = refl

-- ---- what stands behind a dot of a path is segments

record Segments (text : List ℕ) : Type 0 where
  pub segments : List (List ℕ)
  pub each : list_all is_segment segments ≡ true
  pub is : text ≡ dotted_text segments

inside : (rest : List ℕ) (s : List ℕ) (n : ℕ) → list_all (λ b. not (is_dot b)) s ≡ true → ((k : ℕ) → begins_segment_or_ends (drop k rest) ≡ true → Segments (drop k rest)) → begins_segment_or_ends (drop n (s ++ rest)) ≡ true → Segments (drop n (s ++ rest))
inside rest [] n h more b = more n b
inside rest (x ∷ s) zero h more b =
    let p = and_parts (not (is_dot x)) (list_all (λ c. not (is_dot c)) s) h in
    absurd (false≢true (sym (ap not b) ∙ p.0))
inside rest (x ∷ s) (suc n) h more b = inside rest s n (and_parts (not (is_dot x)) (list_all (λ c. not (is_dot c)) s) h).1 more b

word_dots : (xs : List ℕ) → list_all is_in_segment xs ≡ true → list_all (λ b. not (is_dot b)) xs ≡ true
word_dots [] h = refl
word_dots (x ∷ xs) h =
    let p = and_parts (is_in_segment x) (list_all is_in_segment xs) h in
    rw (not_dot_from_inside x p.0) (word_dots xs p.1)

segment_undotted : (s : List ℕ) → is_segment s ≡ true → list_all (λ b. not (is_dot b)) s ≡ true
segment_undotted [] h = refl
segment_undotted (x ∷ xs) h =
    let p = and_parts (begins_segment x) _ h in
    let q = and_parts (list_all is_in_segment xs) _ p.1 in
    rw (not_dot_from_begins x p.0) (word_dots xs q.0)

cut : (ss : List (List ℕ)) (n : ℕ) → list_all is_segment ss ≡ true → begins_segment_or_ends (drop n (dotted_text ss)) ≡ true → Segments (drop n (dotted_text ss))
cut [] zero h b = record { segments = []; each = refl; is = refl }
cut [] (suc n) h b = record { segments = []; each = refl; is = refl }
cut (s ∷ ss) zero h b = record { segments = s ∷ ss; each = h; is = refl }
cut (s ∷ ss) (suc n) h b =
    let p = and_parts (is_segment s) (list_all is_segment ss) h in
    inside (dotted_text ss) s n (segment_undotted s p.0) (λ k c. cut ss k p.1 c) b

-- ---- a path below p, cut behind p

-- the segments of a path behind those of p, and what they are behind those of q
pub record Split (ps qs : List (List ℕ)) (x now : Label) : Type 0 where
  pub segments : List (List ℕ)
  pub each : list_all is_segment segments ≡ true
  pub is : x ≡ path_text segments
  pub rest : List (List ℕ)
  pub from : dotted_text segments ≡ dotted_text ps ++ dotted_text rest
  pub to : now ≡ path_text (qs ++ rest)
  pub now_each : list_all is_segment (qs ++ rest) ≡ true

both_true : (a b : Bool) → a ≡ true → b ≡ true → (a && b) ≡ true
both_true a b h k = rw (h, k) refl

stem-path : (p : Label) (h : IsPath p) → stem p ≡ dotted_text h.segments
stem-path p h = ap stem h.is ∙ stem-text h.segments h.each

pub split_at : (p q x : Label) (hp : IsPath p) (hq : IsPath q) (hx : IsPath x) → is_at_or_below x p ≡ true → Split hp.segments hq.segments x (moved p q x)
split_at p q x hp hq hx b =
    let on : goes_on (dotted_text hx.segments) (dotted_text hp.segments) ≡ true = sym (below-text hx.segments hp.segments hx.each hp.each) ∙ sym (ap (λ (l : Label). is_at_or_below l p) hx.is ∙ ap (is_at_or_below (path_text hx.segments)) hp.is) ∙ b in
    let parts = and_parts (starts_with nat_eq (dotted_text hx.segments) (dotted_text hp.segments)) _ on in
    let rest = cut hx.segments (length (dotted_text hp.segments)) hx.each parts.1 in
    let behind : drop (length (stem p)) (stem x) ≡ dotted_text rest.segments = ap (λ (l : Label). drop (length l) (stem x)) (stem-path p hp) ∙ ap (λ (l : Label). drop (length (dotted_text hp.segments)) l) (stem-path x hx) ∙ rest.is in
    record {
      segments = hx.segments;
      each = hx.each;
      is = hx.is;
      rest = rest.segments;
      from = front_of (dotted_text hx.segments) (dotted_text hp.segments) parts.0 ∙ ap (λ (l : Label). dotted_text hp.segments ++ l) rest.is;
      to = ap (λ (l : Label). path_of (l ++ drop (length (stem p)) (stem x))) (stem-path q hq) ∙ ap (λ (l : Label). path_of (dotted_text hq.segments ++ l)) behind ∙ ap path_of (sym (dotted_text-append hq.segments rest.segments)) ∙ path_of-dotted_text (hq.segments ++ rest.segments);
      now_each = list_all-append is_segment hq.segments rest.segments ∙ both_true _ _ hq.each rest.each;
    }

-- the stem of a path at or below p begins with p's
pub stem_begins : (p x : Label) → IsPath p → IsPath x → is_at_or_below x p ≡ true → stem x ≡ stem p ++ drop (length (stem p)) (stem x)
stem_begins p x hp hx b =
    let on : goes_on (dotted_text hx.segments) (dotted_text hp.segments) ≡ true = sym (below-text hx.segments hp.segments hx.each hp.each) ∙ sym (ap (λ (l : Label). is_at_or_below l p) hx.is ∙ ap (is_at_or_below (path_text hx.segments)) hp.is) ∙ b in
    let parts = and_parts (starts_with nat_eq (dotted_text hx.segments) (dotted_text hp.segments)) _ on in
    rw (stem-path p hp, stem-path x hx) (front_of (dotted_text hx.segments) (dotted_text hp.segments) parts.0)

-- the text that is made of stems and what is behind
pub text_moved : (p q x sx sp sq rest text : Label) (n : ℕ) → sx ≡ stem x → sp ≡ stem p → sq ≡ stem q → n ≡ length sp → rest ≡ drop n sx → text ≡ path_of (sq ++ rest) → text ≡ moved p q x
text_moved p q x sx sp sq rest text n a b c d e f =
    f ∙ ap (λ (l : Label). path_of (l ++ rest)) c
    ∙ ap (λ (l : Label). path_of (stem q ++ l)) (e ∙ ap (λ (k : ℕ). drop k sx) (d ∙ ap (λ (l : Label). length l) b) ∙ ap (λ (l : Label). drop (length (stem p)) l) a)

path_of-length : (text : Label) → length (path_of text) ≤ length text + 1
path_of-length [] = omega arith
path_of-length (b ∷ text) = omega arith

pub text_fits : (front rest text : Label) → length front ≤ 520 → length rest ≤ 520 → text ≡ path_of (front ++ rest) → length text < 4294967296
text_fits front rest text h k e = omega (arith, ap (λ (l : Label). length l) e, path_of-length (front ++ rest), length-append front rest)

stem_length : (b : Bool) (p : Label) → length p ≤ 520 → length (if b then [] else p) ≤ 520
stem_length true p h = omega arith
stem_length false p h = h

pub stem_short : (p text : Label) → IsPath p → text ≡ stem p → length text ≤ 520
stem_short p text h e = rw e (stem_length (is_root p) p (path_short p h))

pub below_moved : (ps qs : List (List ℕ)) (x y f g : Label) → Split ps qs x f → Split ps qs y g → is_at_or_below f g ≡ is_at_or_below x y
below_moved ps qs x y f g a b =
    ap (λ (l : Label). is_at_or_below l g) a.to ∙ ap (is_at_or_below (path_text (qs ++ a.rest))) b.to
    ∙ below-text (qs ++ a.rest) (qs ++ b.rest) a.now_each b.now_each
    ∙ ap (λ (l : Label). goes_on l (dotted_text (qs ++ b.rest))) (dotted_text-append qs a.rest) ∙ ap (goes_on (dotted_text qs ++ dotted_text a.rest)) (dotted_text-append qs b.rest)
    ∙ goes_on_behind (dotted_text qs) (dotted_text a.rest) (dotted_text b.rest)
    ∙ sym (goes_on_behind (dotted_text ps) (dotted_text a.rest) (dotted_text b.rest))
    ∙ ap (λ (l : Label). goes_on l (dotted_text ps ++ dotted_text b.rest)) (sym a.from) ∙ ap (goes_on (dotted_text a.segments)) (sym b.from)
    ∙ sym (below-text a.segments b.segments a.each b.each)
    ∙ ap (λ (l : Label). is_at_or_below l (path_text b.segments)) (sym a.is) ∙ ap (is_at_or_below x) (sym b.is)

pub before_moved : (ps qs : List (List ℕ)) (x y f g : Label) → Split ps qs x f → Split ps qs y g → is_before f g ≡ is_before x y
before_moved ps qs x y f g a b =
    ap (λ (l : Label). is_before l g) a.to ∙ ap (is_before (path_text (qs ++ a.rest))) b.to
    ∙ before-text (qs ++ a.rest) (qs ++ b.rest) a.now_each b.now_each
    ∙ ap (λ (l : Label). is_before l (dotted_text (qs ++ b.rest))) (dotted_text-append qs a.rest) ∙ ap (is_before (dotted_text qs ++ dotted_text a.rest)) (dotted_text-append qs b.rest)
    ∙ before_behind (dotted_text qs) (dotted_text a.rest) (dotted_text b.rest)
    ∙ sym (before_behind (dotted_text ps) (dotted_text a.rest) (dotted_text b.rest))
    ∙ ap (λ (l : Label). is_before l (dotted_text ps ++ dotted_text b.rest)) (sym a.from) ∙ ap (is_before (dotted_text a.segments)) (sym b.from)
    ∙ sym (before-text a.segments b.segments a.each b.each)
    ∙ ap (λ (l : Label). is_before l (path_text b.segments)) (sym a.is) ∙ ap (is_before x) (sym b.is)

-- what is moved is a path, or has too many segments
pub path_or_deep : (ps qs : List (List ℕ)) (x now : Label) → Split ps qs x now → is_deep now ≡ false → IsPath now
path_or_deep ps qs x now s d = record {
  segments = qs ++ s.rest;
  few = few_segments (qs ++ s.rest) s.now_each (ap is_deep (sym s.to) ∙ d);
  each = s.now_each;
  is = s.to;
}

pub deep_of : (ps qs : List (List ℕ)) (x now : Label) → Split ps qs x now → (IsPath now → ⊥) → is_deep now ≡ true
deep_of ps qs x now s none = by (is_deep now) refl
  where
    by : (b : Bool) → is_deep now ≡ b → b ≡ true
    by true e = refl
    by false e = absurd (none (path_or_deep ps qs x now s e))
