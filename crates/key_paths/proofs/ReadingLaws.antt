-- How a text is read as a path, and what that shows of it.
use Rattle.std.proofs.Common.{◌≡◌, ℕ, suc, ◌+◌, ◌≤◌, ◌<◌, Bool, true, false, ◌&&◌, not, List, [], ◌∷◌, ◌++◌, length, take, drop, refl, ap, sym, ◌∙◌, append_assoc, append-nil, arith, ◌⊎◌, inl, inr}
use Rattle.std.specs.Prelude.{Result, Ok, Err, Option, Some, None, slice_get, nat_le, nat_eq, if◌then◌else◌}
use Rattle.std.specs.List.{list_all}
use Rattle.std.proofs.Common.{get_or, subst}
use Rattle.std.proofs.Math.Seq.{take-append_seam, take-append-add, drop-cons}
use Rattle.std.proofs.lemmas.List.{length_push, length-append, take-append-drop, length-take-le, take_all, take_more}
use Rattle.std.proofs.lemmas.Option.{slice_get_past}
use Rattle.std.proofs.lemmas.List.Folds.{list_all-append}
use Rattle.std.proofs.lemmas.Bool.{and_parts}
use Rattle.std.proofs.lemmas.Bool.Decides.{nat_tests}
use Rattle.key_paths.specs.Paths.{is_dot, begins_segment, is_in_segment, is_segment, dotted_text, path_text, last_width, kind_inside, kind_after, IsPath, BeginsPath, IsFault}
use Rattle.key_paths.specs.Reading.{reached, step_of, end_of}
use Rattle.key_paths.specs.declared.reading.Reached.{Reached}
use Rattle.key_paths.specs.declared.refusal.PathKind.{PathKind}
use Rattle.key_paths.specs.declared.refusal.PathKind.TheVariants.{NoDot, EmptySegment, SegmentTooLong, BadByte}
use Rattle.key_paths.proofs.Texts.{dotted_text-push, path_text-push, last_width_dot, last_width_inside, not_dot_from_begins, not_dot_from_inside}
use Rattle.key_paths.proofs.Forms.{segment_some, segment_short}
use Rattle.key_paths.proofs.Steps.{Stepped, dot, first, inner, Refused, no_dot, empty, deep, bad_first, bad_inner, long, stepped, refused, choice, either, above_zero, is_zero}

abbrev pub next : Result Reached PathKind → (Reached → Result Reached PathKind) → Result Reached PathKind
next (Ok r) f = f r
next (Err kind) f = Err kind

-- how far a text is read from somewhere on
abbrev pub read_on : List ℕ → Reached → Result Reached PathKind
read_on [] r = Ok r
read_on (b ∷ bytes) r = next (step_of r b) (read_on bytes)

abbrev pub start : Reached
start = reached 0 0

next-next : (s : Result Reached PathKind) (f g h : Reached → Result Reached PathKind) → ((r : Reached) → f r ≡ next (g r) h) → next s f ≡ next (next s g) h
next-next (Ok r) f g h e = e r
next-next (Err kind) f g h e = refl

and_no : (a b : Bool) → b ≡ false → (a && b) ≡ false
and_no true b h = h
and_no false b h = refl

no_64 : (b : Bool) → BadByte ≡ (if b && nat_eq 0 64 then SegmentTooLong else BadByte)
no_64 true = refl
no_64 false = refl

one_more : (front : List ℕ) (b : ℕ) (back : List ℕ) → take (length front + 1) (front ++ b ∷ back) ≡ front ++ b ∷ []
one_more front b back = take-append-add front (b ∷ back) 1

at_seam : (front : List ℕ) (b : ℕ) (back : List ℕ) → slice_get (front ++ b ∷ back) (length front) ≡ Some b
at_seam [] b back = refl
at_seam (x ∷ front) b back = at_seam front b back

pub read_on-append : (xs ys : List ℕ) (r : Reached) → read_on (xs ++ ys) r ≡ next (read_on xs r) (read_on ys)
read_on-append [] ys r = refl
read_on-append (b ∷ xs) ys r = next-next (step_of r b) (read_on (xs ++ ys)) (read_on xs) (read_on ys) (read_on-append xs ys)

-- ---- what has been read is the beginning of a path

-- the segments before the last one, and the last one so far
pub data Reads (r : Reached) (text : List ℕ) : Type 0 where
  nothing : r.segments ≡ 0 → r.width ≡ 0 → text ≡ [] → Reads r text
  segments : (before : List (List ℕ)) → r.segments ≡ length before + 1 → length before ≤ 7 → list_all is_segment before ≡ true → r.width ≡ 0 → text ≡ dotted_text before ++ 46 ∷ [] → Reads r text
  inside : (before : List (List ℕ)) (last : List ℕ) → r.segments ≡ length before + 1 → length before ≤ 7 → list_all is_segment before ≡ true → r.width ≡ length last → is_segment last ≡ true → text ≡ dotted_text before ++ 46 ∷ last → Reads r text

dot_byte : (b : ℕ) → is_dot b ≡ true → b ≡ 46
dot_byte b h = grind (arith, nat_tests)

no_choice : (m n : ℕ) → (m ≡ 0) ⊎ (0 < n) → 0 < m → n ≡ 0 → ⊥
no_choice m n (inl e) h z = omega arith
no_choice m n (inr e) h z = omega arith

-- segments with one more
all_push : (before : List (List ℕ)) (last : List ℕ) → list_all is_segment before ≡ true → is_segment last ≡ true → list_all is_segment (before ++ last ∷ []) ≡ true
all_push before last h k = rw (list_all-append is_segment before (last ∷ []), h, k) refl

segment_first : (b : ℕ) → begins_segment b ≡ true → is_segment (b ∷ []) ≡ true
segment_first b h = rw h refl

few_push : (n : ℕ) → n < 63 → nat_le (n + 1) 63 ≡ true
few_push n h = grind (arith, nat_tests)

few_from_test : (n : ℕ) → nat_le n 63 ≡ true → n ≤ 63
few_from_test n h = grind (arith, nat_tests)

segment_push : (last : List ℕ) (b : ℕ) → is_segment last ≡ true → is_in_segment b ≡ true → length last < 64 → is_segment (last ++ b ∷ []) ≡ true
segment_push [] b h k l = cc
segment_push (x ∷ xs) b h k l =
    let parts = and_parts (begins_segment x) (list_all is_in_segment xs && nat_le (length xs) 63) h in
    let more = and_parts (list_all is_in_segment xs) (nat_le (length xs) 63) parts.1 in
    let few : nat_le (length (xs ++ b ∷ [])) 63 ≡ true = rw (length_push xs b) (few_push (length xs) (omega arith)) in
    rw (list_all-append is_in_segment xs (b ∷ []), parts.0, more.0, k, few) refl

reads_dot : (r after : Reached) (b : ℕ) (text : List ℕ) → Reads r text → is_dot b ≡ true → (r.segments ≡ 0) ⊎ (0 < r.width) → r.segments < 8 → after ≡ reached (r.segments + 1) 0 → Reads after (text ++ b ∷ [])
reads_dot r after b text (nothing z w t) d c few is =
    let e : b ≡ 46 = dot_byte b d in
    rw (is, t, e, z) (segments [] (omega arith) (omega arith) refl refl refl)
reads_dot r after b text (segments before n few' all w t) d c few is = absurd (no_choice r.segments r.width c (omega arith) w)
reads_dot r after b text (inside before last n few' all w s t) d c few is =
    let e : b ≡ 46 = dot_byte b d in
    let joins : (dotted_text before ++ 46 ∷ last) ++ 46 ∷ [] ≡ dotted_text (before ++ last ∷ []) ++ 46 ∷ [] = ap (λ (l : List ℕ). l ++ 46 ∷ []) (sym (dotted_text-push before last)) in
    let more = length_push before last in
    rw (is, t, e) (segments (before ++ last ∷ []) (omega arith) (omega arith) (all_push before last all s) refl joins)

reads_first : (r after : Reached) (b : ℕ) (text : List ℕ) → Reads r text → 0 < r.segments → r.width ≡ 0 → begins_segment b ≡ true → after ≡ reached r.segments 1 → Reads after (text ++ b ∷ [])
reads_first r after b text (nothing z w t) some width begins is = absurd (omega arith)
reads_first r after b text (segments before n few all w t) some width begins is =
    rw (is, t) (inside before (b ∷ []) n few all refl (segment_first b begins) (append_assoc (dotted_text before) (46 ∷ []) (b ∷ [])))
reads_first r after b text (inside before last n few all w s t) some width begins is = absurd (omega (arith, segment_some last s))

reads_inner : (r after : Reached) (b : ℕ) (text : List ℕ) → Reads r text → 0 < r.width → is_in_segment b ≡ true → r.width < 64 → after ≡ reached r.segments (r.width + 1) → Reads after (text ++ b ∷ [])
reads_inner r after b text (nothing z w t) some within short is = absurd (omega arith)
reads_inner r after b text (segments before n few all w t) some within short is = absurd (omega arith)
reads_inner r after b text (inside before last n few all w s t) some within short is =
    let more = length_push last b in
    rw (is, t) (inside before (last ++ b ∷ []) n few all (omega arith) (segment_push last b s within (omega arith)) (append_assoc (dotted_text before) (46 ∷ last) (b ∷ [])))

pub reads_more : (r after : Reached) (b : ℕ) (text : List ℕ) → Reads r text → Stepped r b after → Reads after (text ++ b ∷ [])
reads_more r after b text h (dot d c few is) = reads_dot r after b text h d c few is
reads_more r after b text h (first d some width begins is) = reads_first r after b text h some width begins is
reads_more r after b text h (inner d some width within short is) = reads_inner r after b text h width within short is

-- the width that has been read is that of the bytes after the last dot
width_more : (r after : Reached) (b : ℕ) (text : List ℕ) → Stepped r b after → r.width ≡ last_width text → after.width ≡ last_width (text ++ b ∷ [])
width_more r after b text (dot d c few is) e = rw (is, last_width_dot text b d) refl
width_more r after b text (first d some width begins is) e = rw (is, last_width_inside text b d) (omega arith)
width_more r after b text (inner d some width within short is) e = rw (is, last_width_inside text b d) (omega arith)

-- what is known of a text that has been read
pub record Known (r : Reached) (text : List ℕ) : Type 0 where
  pub reads : Reads r text
  pub width : r.width ≡ last_width text

next_ok : (s : Result Reached PathKind) (f : Reached → Result Reached PathKind) (a : Reached) → next s f ≡ Ok a → (r : Reached) × (s ≡ Ok r) × (f r ≡ Ok a)
next_ok (Ok r) f a e = (r, refl, e)
next_ok (Err kind) f a e = absurd (cc e)

known_all : (bytes text : List ℕ) (r after : Reached) → Known r text → read_on bytes r ≡ Ok after → Known after (text ++ bytes)
known_all [] text r after h e = let same : r ≡ after = cc in rw (append-nil text, ← same) h
known_all (b ∷ bytes) text r after h e =
    let n = next_ok (step_of r b) (read_on bytes) after e in
    let s = stepped r b n.0 n.1 in
    rw (← append_assoc text (b ∷ []) bytes) (known_all bytes (text ++ b ∷ []) n.0 after (record { reads = reads_more r n.0 b text h.reads s; width = width_more r n.0 b text s h.width }) n.2)

pub known : (text : List ℕ) (r : Reached) → read_on text start ≡ Ok r → Known r text
known text r e = known_all text [] start r (record { reads = nothing refl refl refl; width = refl }) e

-- some path begins with it
some_byte : is_segment (97 ∷ []) ≡ true
some_byte = refl

path_of : (text : List ℕ) (before : List (List ℕ)) (last : List ℕ) → length before ≤ 7 → list_all is_segment before ≡ true → is_segment last ≡ true → text ≡ dotted_text before ++ 46 ∷ last → IsPath text
path_of text before last few all s e = record {
  segments = before ++ last ∷ [];
  few = omega (arith, length_push before last);
  each = all_push before last all s;
  is = e ∙ sym (path_text-push before last ∙ dotted_text-push before last);
}

root_path : IsPath (46 ∷ [])
root_path = record { segments = []; few = omega arith; each = refl; is = refl }

pub begins_from_reads : (r : Reached) (text : List ℕ) → Reads r text → BeginsPath text
begins_from_reads r text (nothing z w t) = record { rest = 46 ∷ []; path = rw t root_path }
begins_from_reads r text (segments before n few all w t) = record {
  rest = 97 ∷ [];
  path = path_of (text ++ 97 ∷ []) before (97 ∷ []) few all some_byte (ap (λ (l : List ℕ). l ++ 97 ∷ []) t ∙ append_assoc (dotted_text before) (46 ∷ []) (97 ∷ []));
}
begins_from_reads r text (inside before last n few all w s t) = record { rest = []; path = rw (append-nil text) (path_of text before last few all s t) }

-- ---- a path is read to its end

test_no : (n : ℕ) → 0 < n → nat_eq n 0 ≡ false
test_no n h = grind (arith, nat_tests)

few_no : (m n : ℕ) → n < m → nat_le m n ≡ false
few_no m n h = grind (arith, nat_tests)

inner_ok : (d w b : ℕ) → 0 < d → 0 < w → w < 64 → is_in_segment b ≡ true → step_of (reached d w) b ≡ Ok (reached d (w + 1))
inner_ok d w b some width short h = rw (not_dot_from_inside b h, test_no d some, test_no w width, h, few_no 64 w short) refl

first_ok : (d b : ℕ) → 0 < d → begins_segment b ≡ true → step_of (reached d 0) b ≡ Ok (reached d 1)
first_ok d b some h = rw (not_dot_from_begins b h, test_no d some, h) refl

dot_tests : (d w : ℕ) → (d ≡ 0) ⊎ (0 < w) → (not (nat_eq d 0) && nat_eq w 0) ≡ false
dot_tests d w (inl e) = rw e refl
dot_tests d w (inr h) = let t : nat_eq w 0 ≡ false = test_no w h in and_no (not (nat_eq d 0)) (nat_eq w 0) t

dot_ok : (d w : ℕ) → (d ≡ 0) ⊎ (0 < w) → d < 8 → step_of (reached d w) 46 ≡ Ok (reached (d + 1) 0)
dot_ok d w c few = rw (dot_tests d w c, few_no 8 d few) refl

read_word : (xs : List ℕ) (d w : ℕ) → list_all is_in_segment xs ≡ true → 0 < d → 0 < w → w + length xs ≤ 64 → read_on xs (reached d w) ≡ Ok (reached d (w + length xs))
read_word [] d w h some width few = ap (λ n. Ok (reached d n)) (let e : w ≡ w + 0 = omega arith in e)
read_word (x ∷ xs) d w h some width few =
    let parts = and_parts (is_in_segment x) (list_all is_in_segment xs) h in
    ap (λ (s : Result Reached PathKind). next s (read_on xs)) (inner_ok d w x some width (omega arith) parts.0)
    ∙ (read_word xs d (w + 1) parts.1 some (omega arith) (omega arith) ∙ ap (λ n. Ok (reached d n)) (let e : w + 1 + length xs ≡ w + suc (length xs) = omega arith in e))

read_segment : (segment : List ℕ) (d : ℕ) → is_segment segment ≡ true → 0 < d → read_on segment (reached d 0) ≡ Ok (reached d (length segment))
read_segment [] d h some = absurd (cc h)
read_segment (x ∷ xs) d h some =
    let parts = and_parts (begins_segment x) (list_all is_in_segment xs && nat_le (length xs) 63) h in
    let more = and_parts (list_all is_in_segment xs) (nat_le (length xs) 63) parts.1 in
    let few = few_from_test (length xs) more.1 in
    ap (λ (s : Result Reached PathKind). next s (read_on xs)) (first_ok d x some parts.0)
    ∙ (read_word xs d 1 more.0 some (omega arith) (omega arith) ∙ ap (λ n. Ok (reached d n)) (let e : 1 + length xs ≡ suc (length xs) = omega arith in e))

-- how far the segments of a path are read
pub record ReadTo (text : List ℕ) (r : Reached) (count : ℕ) : Type 0 where
  pub width : ℕ
  pub ok : read_on text r ≡ Ok (reached (r.segments + count) width)
  pub above : ((width ≡ r.width) × (count ≡ 0)) ⊎ (0 < width)

read_dotted_text : (segments : List (List ℕ)) (d w : ℕ) → list_all is_segment segments ≡ true → (d ≡ 0) ⊎ (0 < w) → d + length segments ≤ 8 → ReadTo (dotted_text segments) (reached d w) (length segments)
read_dotted_text [] d w h c few = record { width = w; ok = ap (λ n. Ok (reached n w)) (let e : d ≡ d + 0 = omega arith in e); above = inl (refl, refl) }
read_dotted_text (s ∷ ss) d w h c few =
    let parts = and_parts (is_segment s) (list_all is_segment ss) h in
    let others = read_dotted_text ss (d + 1) (length s) parts.1 (inr (segment_some s parts.0)) (omega arith) in
    let here : read_on (s ++ dotted_text ss) (reached (d + 1) 0) ≡ read_on (dotted_text ss) (reached (d + 1) (length s)) =
    read_on-append s (dotted_text ss) (reached (d + 1) 0) ∙ ap (λ (r : Result Reached PathKind). next r (read_on (dotted_text ss))) (read_segment s (d + 1) parts.0 (omega arith)) in
    record {
      width = others.width;
      ok = ap (λ (r : Result Reached PathKind). next r (read_on (s ++ dotted_text ss))) (dot_ok d w c (omega arith)) ∙ (here ∙ (others.ok ∙ ap (λ n. Ok (reached n others.width)) (let e : d + 1 + length ss ≡ d + suc (length ss) = omega arith in e)));
      above = inr (elim others.above [ inl e ↦ let a = segment_some s parts.0 in omega (arith, e.0) | inr a ↦ a ]);
    }

end_ok : (d w : ℕ) → 0 < d → 0 < w → end_of (reached d w) ≡ Ok tt
end_ok d w some width = rw (test_no d some, and_no (not (nat_eq d 1)) (nat_eq w 0) (test_no w width)) refl

-- a text that is read to its end, with nothing wrong there
pub record ReadWhole (text : List ℕ) : Type 0 where
  pub to : Reached
  pub ok : read_on text start ≡ Ok to
  pub end : end_of to ≡ Ok tt

whole_segments : (segments : List (List ℕ)) → list_all is_segment segments ≡ true → length segments ≤ 8 → ReadWhole (path_text segments)
whole_segments [] h few = record { to = reached 1 0; ok = refl; end = refl }
whole_segments (s ∷ ss) h few =
    let all = read_dotted_text (s ∷ ss) 0 0 h (inl refl) (omega arith) in
    record {
      to = reached (0 + length (s ∷ ss)) all.width;
      ok = all.ok;
      end = end_ok (0 + length (s ∷ ss)) all.width (omega arith) (elim all.above [ inl e ↦ absurd (omega (arith, e.1)) | inr a ↦ a ]);
    }

pub read_path : (text : List ℕ) → IsPath text → ReadWhole text
read_path text h = rw h.is (whole_segments h.segments h.each h.few)

-- ---- faults

-- no path begins with what can't be read
stuck_at : (front rest : List ℕ) (b : ℕ) (r : Reached) (kind : PathKind) → read_on front start ≡ Ok r → step_of r b ≡ Err kind → read_on (front ++ b ∷ rest) start ≡ Err kind
stuck_at front rest b r kind h s =
    read_on-append front (b ∷ rest) start ∙ (ap (λ (x : Result Reached PathKind). next x (read_on (b ∷ rest))) h ∙ ap (λ (x : Result Reached PathKind). next x (read_on rest)) s)

no_path_at : (front rest : List ℕ) (b : ℕ) (r : Reached) (kind : PathKind) → read_on front start ≡ Ok r → step_of r b ≡ Err kind → IsPath (front ++ b ∷ rest) → ⊥
no_path_at front rest b r kind h s p = let whole = read_path (front ++ b ∷ rest) p in cc (stuck_at front rest b r kind h s, whole.ok)

kind_after-inside : (text : List ℕ) (byte : Option ℕ) → 0 < length text → kind_after text byte ≡ kind_inside (last_width text) byte
kind_after-inside [] byte h = absurd (omega arith)
kind_after-inside (x ∷ text) byte h = refl

longer : (r : Reached) (text : List ℕ) → Reads r text → 0 < r.segments → 0 < length text
longer r text (nothing z w t) h = absurd (omega arith)
longer r text (segments before n few all w t) h = rw (t, length-append (dotted_text before) (46 ∷ [])) (omega arith)
longer r text (inside before last n few all w s t) h = rw (t, length-append (dotted_text before) (46 ∷ last)) (omega arith)

width_most : (r : Reached) (text : List ℕ) → Reads r text → r.width ≤ 64
width_most r text (nothing z w t) = omega arith
width_most r text (segments before n few all w t) = omega arith
width_most r text (inside before last n few all w s t) = omega (arith, segment_short last s)

empty_from_start : (r : Reached) (text : List ℕ) → Reads r text → r.segments ≡ 0 → text ≡ []
empty_from_start r text (nothing z w t) h = t
empty_from_start r text (segments before n few all w t) h = absurd (omega arith)
empty_from_start r text (inside before last n few all w s t) h = absurd (omega arith)

is_one : (n : ℕ) → nat_eq n 1 ≡ true → n ≡ 1
is_one n h = grind (arith, nat_tests)

zero_test : (n : ℕ) → n ≡ 0 → nat_eq n 0 ≡ false → ⊥
zero_test n z h = cc (rw z at h)

test_64 : (n : ℕ) → 64 ≤ n → n ≤ 64 → nat_eq n 64 ≡ true
test_64 n h k = grind (arith, nat_tests)

kind_at_byte : (r : Reached) (text : List ℕ) (b : ℕ) (kind : PathKind) → Known r text → Refused r b kind → kind ≡ kind_after text (Some b)
kind_at_byte r text b kind k (no_dot d z is) = rw (is, empty_from_start r text k.reads z) refl
kind_at_byte r text b kind k (empty d some z is) =
    rw (is, kind_after-inside text (Some b) (longer r text k.reads some), ← k.width, d, z) refl
kind_at_byte r text b kind k (deep d some w is) =
    rw (is, kind_after-inside text (Some b) (longer r text k.reads some), ← k.width, d, test_no r.width w) refl
kind_at_byte r text b kind k (bad_first d some z is) =
    rw (is, kind_after-inside text (Some b) (longer r text k.reads some), ← k.width, d, z) (no_64 (is_in_segment b))
kind_at_byte r text b kind k (bad_inner d some w out is) =
    rw (is, kind_after-inside text (Some b) (longer r text k.reads some), d, out) refl
kind_at_byte r text b kind k (long d some within w is) =
    rw (is, kind_after-inside text (Some b) (longer r text k.reads some), ← k.width, d, within, test_64 r.width w (width_most r text k.reads)) refl

pub fault_at_byte : (front back : List ℕ) (b : ℕ) (r : Reached) (kind : PathKind) → read_on front start ≡ Ok r → step_of r b ≡ Err kind → IsFault (front ++ b ∷ back) (length front) kind
fault_at_byte front back b r kind h s =
    let k = known front r h in
    let front_is : take (length front) (front ++ b ∷ back) ≡ front = take-append_seam front (b ∷ back) in
    record {
      none = no_path_at front back b r kind h s;
      within = omega (arith, length-append front (b ∷ back));
      begins = rw front_is (begins_from_reads r front k.reads);
      stops = λ _ p. no_path_at front p.rest b r kind h s (rw (one_more front b back, append_assoc front (b ∷ []) p.rest) at p.path);
      kind_is = rw (front_is, at_seam front b back) (kind_at_byte r front b kind k (refused r b kind s));
    }

-- why a text may not end
data EndRefused (r : Reached) (kind : PathKind) : Type 0 where
  at_start : r.segments ≡ 0 → kind ≡ NoDot → EndRefused r kind
  after_dot : 0 < r.segments → kind ≡ EmptySegment → EndRefused r kind

end_refused : (r : Reached) (kind : PathKind) → end_of r ≡ Err kind → EndRefused r kind
end_refused r kind e =
    elim (choice (nat_eq r.segments 0) _ _ _ e) [
      | inl p ↦ at_start (is_zero _ p.0) (cc p.1)
      | inr p ↦
          elim (choice (not (nat_eq r.segments 1) && nat_eq r.width 0) _ _ _ p.1) [
            | inl q ↦ after_dot (above_zero _ p.0) (cc q.1)
            | inr q ↦ absurd (cc q.1)
          ]
    ]

kind_at_end : (r : Reached) (text : List ℕ) (kind : PathKind) → Known r text → EndRefused r kind → kind ≡ kind_after text None
kind_at_end r text kind k (at_start z is) = rw (is, empty_from_start r text k.reads z) refl
kind_at_end r text kind k (after_dot some is) = rw (is, kind_after-inside text None (longer r text k.reads some)) refl

pub fault_at_end : (text : List ℕ) (r : Reached) (kind : PathKind) → read_on text start ≡ Ok r → end_of r ≡ Err kind → IsFault text (length text) kind
fault_at_end text r kind h s =
    let k = known text r h in
    record {
      none = λ p. let whole = read_path text p in cc (whole.ok, whole.end, h, s);
      within = omega arith;
      begins = rw (take_all (length text) text (omega arith)) (begins_from_reads r text k.reads);
      stops = λ l p. absurd (omega arith);
      kind_is = rw (take_all (length text) text (omega arith), slice_get_past text (length text) (omega arith)) (kind_at_end r text kind k (end_refused r kind s));
    }

one_segment : (before : List (List ℕ)) (n : ℕ) → n ≡ length before + 1 → n ≡ 1 → before ≡ []
one_segment [] n e h = refl
one_segment (x ∷ before) n e h = absurd (omega arith)

-- where a text may end after a dot, it is the root
ends_after_dot : (r : Reached) → end_of r ≡ Ok tt → 0 < r.segments → r.width ≡ 0 → r.segments ≡ 1
ends_after_dot r e some z =
    elim (choice (nat_eq r.segments 0) _ _ _ e) [
      | inl p ↦ absurd (cc p.1)
      | inr p ↦
          elim (choice (not (nat_eq r.segments 1) && nat_eq r.width 0) _ _ _ p.1) [
            | inl q ↦ absurd (cc q.1)
            | inr q ↦ elim (either (nat_eq r.segments 1) (nat_eq r.width 0) q.0) [ inl t ↦ is_one r.segments t | inr t ↦ absurd (zero_test r.width z t) ]
          ]
    ]

not_at_start : (r : Reached) → end_of r ≡ Ok tt → r.segments ≡ 0 → ⊥
not_at_start r e z = cc (rw z at e)

path_from_reads : (r : Reached) (text : List ℕ) → end_of r ≡ Ok tt → Reads r text → IsPath text
path_from_reads r text e (nothing z w t) = absurd (not_at_start r e z)
path_from_reads r text e (segments before n few all w t) =
    let none = one_segment before r.segments n (ends_after_dot r e (omega arith) w) in
    rw (t, none) root_path
path_from_reads r text e (inside before last n few all w s t) = path_of text before last few all s t

pub path_at_end : (text : List ℕ) (r : Reached) → read_on text start ≡ Ok r → end_of r ≡ Ok tt → IsPath text
path_at_end text r h s = path_from_reads r text s (known text r h).reads

-- ---- the same by places

pub fault_at_place : (text : List ℕ) (i : ℕ) (r : Reached) (kind : PathKind) → i < length text → read_on (take i text) start ≡ Ok r → Err kind ≡ step_of r (get_or text i 0) → IsFault text i kind
fault_at_place text i r kind h e s =
    let front = take i text in
    let b = get_or text i 0 in
    let parts : text ≡ front ++ b ∷ drop (suc i) text = sym (take-append-drop i text) ∙ ap (λ (l : List ℕ). front ++ l) (drop-cons text i 0 h) in
    let count : length front ≡ i = length-take-le i text (omega arith) in
    let fault : IsFault (front ++ b ∷ drop (suc i) text) (length front) kind = fault_at_byte front (drop (suc i) text) b r kind e (sym s) in
    subst (λ (l : List ℕ). IsFault l i kind) (sym parts) (subst (λ n. IsFault (front ++ b ∷ drop (suc i) text) n kind) count fault)

pub read_more : (text : List ℕ) (i : ℕ) (r after : Reached) → i < length text → read_on (take i text) start ≡ Ok r → Ok after ≡ step_of r (get_or text i 0) → read_on (take (i + 1) text) start ≡ Ok after
read_more text i r after h e s =
    let b = get_or text i 0 in
    rw (take_more text i 0 h) (read_on-append (take i text) (b ∷ []) start ∙ (ap (λ (x : Result Reached PathKind). next x (read_on (b ∷ []))) e ∙ ap (λ (x : Result Reached PathKind). next x (read_on [])) (sym s)))

pub read_to_end : (text : List ℕ) (i : ℕ) (r : Reached) → length text ≤ i → i ≤ length text → read_on (take i text) start ≡ Ok r → read_on text start ≡ Ok r
read_to_end text i r h k e =
    let same : i ≡ length text = omega arith in
    rw (same, take_all (length text) text (omega arith)) at e
