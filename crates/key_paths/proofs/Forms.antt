-- The forms of segments and of paths.
use Rattle.std.proofs.Common.{◌≡◌, ℕ, ◌≤◌, ◌<◌, ◌*◌, Bool, true, false, not, ◌||◌, List, [], ◌∷◌, ◌++◌, length, refl, ap, sym, ◌∙◌, subst, arith, append-nil}
use Rattle.std.specs.List.{All, list_all, slice_split}
use Rattle.std.specs.Str.{IsAscii, IsUtf8}
use Rattle.std.proofs.lemmas.Bool.{and_parts, and_from, leb-true, le-leb, or_left}
use Rattle.std.proofs.lemmas.Bool.Decides.{nat_tests}
use Rattle.std.proofs.lemmas.List.{length-append}
use Rattle.std.proofs.lemmas.List.Splits.{slice_split_none, slice_split_at}
use Rattle.std.proofs.lemmas.Slice.Eq.{bytes_eq-Decides}
use Rattle.std.proofs.lemmas.Str.{IsUtf8-from_ascii}
use Rattle.key_paths.specs.Paths.{is_dot, begins_segment, is_in_segment, is_segment, dotted_text, path_text, IsPath, nonempty_tail, segments_of, is_path}
use Rattle.key_paths.proofs.Bools.{all_weaker, all_both, all_ascii, none_passes}

-- ---- segments
pub begins_inside : (b : ℕ) → begins_segment b ≡ true → is_in_segment b ≡ true
begins_inside b h = grind (arith, nat_tests)

pub segment_inside : (w : List ℕ) → is_segment w ≡ true → list_all is_in_segment w ≡ true
segment_inside [] h = refl
segment_inside (b ∷ w) h =
    let first = and_parts (begins_segment b) _ h in
    let others = and_parts (list_all is_in_segment w) _ first.1 in
    and_from (is_in_segment b) (list_all is_in_segment w) (begins_inside b first.0) others.0

pub segment_some : (w : List ℕ) → is_segment w ≡ true → 1 ≤ length w
segment_some [] h = cc
segment_some (b ∷ w) h = omega arith

pub segment_short : (w : List ℕ) → is_segment w ≡ true → length w ≤ 64
segment_short [] h = omega arith
segment_short (b ∷ w) h =
    let first = and_parts (begins_segment b) _ h in
    let others = and_parts (list_all is_in_segment w) _ first.1 in
    let few = leb-true (length w) 63 others.1 in
    omega arith

-- ---- paths
-- the bytes of a path
abbrev pub is_in_path : ℕ → Bool
is_in_path b = is_in_segment b || is_dot b

path_small : (b : ℕ) → is_in_path b ≡ true → b < 128
path_small b h = grind (arith, nat_tests)

pub path_ascii : (w : List ℕ) → list_all is_in_path w ≡ true → IsAscii w
path_ascii w h = all_ascii is_in_path path_small w h

inside_path : (b : ℕ) → is_in_segment b ≡ true → is_in_path b ≡ true
inside_path b h = or_left (is_in_segment b) (is_dot b) h

segment_in_path : (w : List ℕ) → is_segment w ≡ true → list_all is_in_path w ≡ true
segment_in_path w h = all_weaker is_in_segment is_in_path inside_path w (segment_inside w h)

pub segment_utf8 : (w : List ℕ) → is_segment w ≡ true → IsUtf8 w
segment_utf8 w h = IsUtf8-from_ascii w (path_ascii w (segment_in_path w h))

dotted_text_in_path : (segments : List (List ℕ)) → list_all is_segment segments ≡ true → list_all is_in_path (dotted_text segments) ≡ true
dotted_text_in_path [] h = refl
dotted_text_in_path (s ∷ segments) h =
    let both = and_parts (is_segment s) (list_all is_segment segments) h in
    all_both is_in_path s (dotted_text segments) (segment_in_path s both.0) (dotted_text_in_path segments both.1)

dotted_text_short : (segments : List (List ℕ)) → list_all is_segment segments ≡ true → length (dotted_text segments) ≤ 65 * length segments
dotted_text_short [] h = omega arith
dotted_text_short (s ∷ segments) h =
    let both = and_parts (is_segment s) (list_all is_segment segments) h in
    omega (arith, segment_short s both.0, dotted_text_short segments both.1, length-append s (dotted_text segments))

-- a path has a dot first, its bytes alone, and at most 520 of them
pub record PathForm (w : List ℕ) : Type 0 where
  pub rest : List ℕ
  pub dot : w ≡ 46 ∷ rest
  pub inside : list_all is_in_path w ≡ true
  pub short : length w ≤ 520

text_form : (segments : List (List ℕ)) → length segments ≤ 8 → list_all is_segment segments ≡ true → PathForm (path_text segments)
text_form [] few h = record { rest = []; dot = refl; inside = refl; short = omega arith }
text_form (s ∷ segments) few h =
    record { rest = s ++ dotted_text segments; dot = refl; inside = dotted_text_in_path (s ∷ segments) h; short = omega (arith, dotted_text_short (s ∷ segments) h) }

pub path_form : (w : List ℕ) → IsPath w → PathForm w
path_form w is = subst PathForm (sym is.is) (text_form is.segments is.few is.each)

pub path_utf8 : (w : List ℕ) → IsPath w → IsUtf8 w
path_utf8 w is = IsUtf8-from_ascii w (path_ascii w (path_form w is).inside)

-- ---- whether a text is a path
pub path_from_test : (w : List ℕ) → is_path w ≡ true → IsPath w
unfolding is_path
path_from_test w h =
    let few = and_parts _ _ h in
    let each = and_parts _ _ few.1 in
    record { segments = segments_of w; few = leb-true (length (segments_of w)) 8 few.0; each = each.0; is = (bytes_eq-Decides w (path_text (segments_of w))).0 each.1 }

no_dot : (b : ℕ) → is_in_segment b ≡ true → not (is_dot b) ≡ true
no_dot b h = grind (arith, nat_tests)

no_dots : (w : List ℕ) → is_segment w ≡ true → All (λ b. is_dot b ≡ false) w
no_dots w h = none_passes is_dot w (all_weaker is_in_segment (λ b. not (is_dot b)) no_dot w (segment_inside w h))

split_dotted_text : (s : List ℕ) (segments : List (List ℕ)) → list_all is_segment (s ∷ segments) ≡ true → slice_split is_dot (s ++ dotted_text segments) ≡ s ∷ segments
split_dotted_text s [] h =
    let both = and_parts (is_segment s) true h in
    ap (slice_split is_dot) (append-nil s) ∙ slice_split_none is_dot s (no_dots s both.0)
split_dotted_text s (t ∷ segments) h =
    let both = and_parts (is_segment s) (list_all is_segment (t ∷ segments)) h in
    slice_split_at is_dot s 46 (t ++ dotted_text segments) (no_dots s both.0) refl ∙ ap (λ (others : List (List ℕ)). s ∷ others) (split_dotted_text t segments both.1)

tail_of_segments : (s : List ℕ) (segments : List (List ℕ)) → is_segment s ≡ true → nonempty_tail ([] ∷ s ∷ segments) ≡ s ∷ segments
tail_of_segments [] segments h = cc
tail_of_segments (b ∷ s) segments h = refl

segments_back : (segments : List (List ℕ)) → list_all is_segment segments ≡ true → segments_of (path_text segments) ≡ segments
segments_back [] h = refl
segments_back (s ∷ segments) h =
    let both = and_parts (is_segment s) (list_all is_segment segments) h in
    ap (λ (parts : List (List ℕ)). nonempty_tail ([] ∷ parts)) (split_dotted_text s segments h) ∙ tail_of_segments s segments both.0

test_of_text : (segments : List (List ℕ)) → length segments ≤ 8 → list_all is_segment segments ≡ true → is_path (path_text segments) ≡ true
unfolding is_path
test_of_text segments few h =
    rw (segments_back segments h)
    (and_from _ _ (le-leb (length segments) 8 few) (and_from _ _ h ((bytes_eq-Decides (path_text segments) (path_text segments)).1 refl)))

pub test_from_path : (w : List ℕ) → IsPath w → is_path w ≡ true
test_from_path w is = rw (is.is) (test_of_text is.segments is.few is.each)

pub no_path : (w : List ℕ) → (IsPath w → ⊥) → is_path w ≡ false
no_path w none = elim (is_path w) as (λ t. is_path w ≡ t → is_path w ≡ false) [ true ↦ λ h. absurd (none (path_from_test w h)) | false ↦ λ h. h ] refl

pub path_inside : (p : List ℕ) → IsPath p → list_all is_in_path p ≡ true
path_inside p is = (path_form p is).inside
