-- Each of some sorted texts once: one text more.
use Rattle.std.proofs.Common.{Ordering, ◌≡◌, ◌∙◌, ℕ, ◌+◌, ◌-◌, ◌<◌, ◌≤◌, Bool, true, false, not, List, [], ◌∷◌, ◌++◌, length, get_or, refl, sym, ap, subst, ◌⊎◌, inl, inr, ⊎_elim, arith, append_assoc, append-nil, length-append}
use Rattle.std.specs.Prelude.{Some, ◌↔◌, slice_get}
use Rattle.std.specs.declared.cmp.Ordering.TheVariants.{Less, Equal, Greater}
use Rattle.std.specs.Ordering.{is_lt, is_eq, ordering_reverse}
use Rattle.std.specs.List.{Contains}
use Rattle.std.specs.List.Sorted.{IsSorted}
use Rattle.std.specs.Str.{bytes_eq}
use Rattle.std.proofs.lemmas.Bool.{cases_lt}
use Rattle.std.proofs.lemmas.Cmp.{nat_list_cmp_total}
use Rattle.std.proofs.lemmas.List.{get_or_at, get_or_append_left, get_or_default}
use Rattle.std.proofs.lemmas.List.Elements.{Contains-append_left, Contains-push, Contains-push_cases, Contains-get_or}
use Rattle.std.proofs.lemmas.List.Quantifiers.{all_pairs_push}
use Rattle.std.proofs.lemmas.List.Sorted.{ranks_by, sorted_far}
use Rattle.std.proofs.lemmas.Map.Text.{is_eq-slice_cmp}
use Rattle.std.proofs.lemmas.Option.{slice_get-get_or}
use Rattle.std.proofs.lemmas.Slice.Eq.{bytes_eq-Decides}
use Rattle.sql_values.specs.Texts.{by_bytes, is_below}
use Rattle.dict_codes.specs.Dictionaries.{IsAscending}
use Rattle.dict_codes.specs.Distinct.{is_new_text, is_other}
use Rattle.dict_codes.proofs.DictionaryLaws.{lt_less}

-- what has been kept where the rest is yet to come
pub record IsKept (all kept rest : List (List ℕ)) : Type 0 where
  pub taken : List (List ℕ)
  pub is : taken ++ rest ≡ all
  pub ascending : IsAscending kept
  pub few : length kept ≤ length taken
  pub within : (t : List ℕ) → Contains kept t → Contains taken t
  pub whole : (t : List ℕ) → Contains taken t → Contains kept t

pub keep_none : (all : List (List ℕ)) → IsKept all [] all
keep_none all = record {
  taken = [];
  is = refl;
  ascending = λ i j d h l. absurd (omega arith);
  few = omega arith;
  within = λ t h. h;
  whole = λ t h. h;
}

last_of : (kept : List (List ℕ)) → 0 < length kept → slice_get kept (length kept - 1) ≡ Some (get_or kept (length kept - 1) [])
last_of kept h = slice_get-get_or kept (length kept - 1) [] (omega arith)

new_is_other : (kept : List (List ℕ)) (x : List ℕ) (b : Bool) → 0 < length kept → is_new_text kept x ≡ b → not (bytes_eq (get_or kept (length kept - 1) []) x) ≡ b
new_is_other kept x b h e = ap (λ o. is_other o x) (sym (last_of kept h)) ∙ e

not_false : (b : Bool) → not b ≡ false → b ≡ true
not_false true e = refl
not_false false e = absurd (cc)

never_new : (kept : List (List ℕ)) (x : List ℕ) → is_new_text kept x ≡ false → 0 < length kept
never_new [] x e = absurd (cc)
never_new (y ∷ ys) x e = omega arith

below_from : (a b : List ℕ) (c : Ordering) → by_bytes a b ≡ c → is_lt (by_bytes b a) ≡ false → not (bytes_eq a b) ≡ true → is_lt c ≡ true
below_from a b Less e n o = refl
below_from a b Equal e n o = let same : bytes_eq a b ≡ true = sym (is_eq-slice_cmp a b) ∙ ap is_eq e in absurd (cc)
below_from a b Greater e n o = let turned : is_lt (by_bytes b a) ≡ true = ap is_lt (nat_list_cmp_total.antisymm b a ∙ ap ordering_reverse e) in absurd (cc)

-- an element that was taken is not above the next one
not_above : (all taken rest : List (List ℕ)) (x t : List ℕ) → IsSorted by_bytes all → taken ++ x ∷ rest ≡ all → Contains taken t → is_lt (by_bytes x t) ≡ false
not_above all taken rest x t s e (k, h, g) =
    let next : get_or all (length taken) t ≡ x = ap (λ l. get_or l (length taken) t) (sym e) ∙ get_or_at taken x rest t (length taken) refl in
    let here : get_or all k t ≡ t = ap (λ l. get_or l k t) (sym e) ∙ (get_or_append_left taken (x ∷ rest) t k h ∙ g) in
    let long : length taken + length (x ∷ rest) ≡ length all = sym (length-append taken (x ∷ rest)) ∙ ap length e in
    let far = sorted_far (λ a b. is_lt (by_bytes a b)) (ranks_by nat_list_cmp_total (λ a. a)) all s k (length taken) t (omega arith) (omega arith) in
    subst (λ a. is_lt (by_bytes a t) ≡ false) next (subst (λ b. is_lt (by_bytes (get_or all (length taken) t) b) ≡ false) here far)

pub keep_more : (all kept rest : List (List ℕ)) (x : List ℕ) → IsSorted by_bytes all → IsKept all kept (x ∷ rest) → is_new_text kept x ≡ true → IsKept all (kept ++ x ∷ []) rest
keep_more all kept rest x s k new = record {
  taken = k.taken ++ x ∷ [];
  is = append_assoc k.taken (x ∷ []) rest ∙ k.is;
  ascending = all_pairs_push (λ a b. is_below a b ≡ true) kept x k.ascending (λ j d h. below j d h);
  few = omega (arith, length-append kept (x ∷ []), length-append k.taken (x ∷ []), k.few);
  within = λ t h. ⊎_elim (λ a. Contains-append_left k.taken (x ∷ []) t (k.within t a)) (λ e. subst (Contains (k.taken ++ x ∷ [])) e (Contains-push k.taken x)) (Contains-push_cases kept x t h);
  whole = λ t h. ⊎_elim (λ a. Contains-append_left kept (x ∷ []) t (k.whole t a)) (λ e. subst (Contains (kept ++ x ∷ [])) e (Contains-push kept x)) (Contains-push_cases k.taken x t h);
}
  where
    last : List ℕ
    last = get_or kept (length kept - 1) []

    last_below : 0 < length kept → is_below last x ≡ true
    last_below h = below_from last x (by_bytes last x) refl (not_above all k.taken rest x last s k.is (k.within last (Contains-get_or kept (length kept - 1) [] (omega arith)))) (new_is_other kept x true h new)

    below_last : (j : ℕ) (d : List ℕ) → j < length kept → (j < length kept - 1) ⊎ (length kept - 1 ≤ j) → is_below (get_or kept j d) x ≡ true
    below_last j d h (inl before) =
        let up = lt_less (by_bytes (get_or kept j d) last) (subst (λ b. is_below (get_or kept j d) b ≡ true) (get_or_default kept (length kept - 1) d [] (omega arith)) (k.ascending j (length kept - 1) d before (omega arith))) in
        let on = lt_less (by_bytes last x) (last_below (omega arith)) in
        ap is_lt (nat_list_cmp_total.trans (get_or kept j d) last x up on)
    below_last j d h (inr at) =
        let same : get_or kept j d ≡ last = ap (λ n. get_or kept n d) (number at h) ∙ get_or_default kept (length kept - 1) d [] (omega arith) in
        subst (λ a. is_below a x ≡ true) (sym same) (last_below (omega arith))
      where
        number : length kept - 1 ≤ j → j < length kept → j ≡ length kept - 1
        number a b = omega arith

    below : (j : ℕ) (d : List ℕ) → j < length kept → is_below (get_or kept j d) x ≡ true
    below j d h = below_last j d h (cases_lt j (length kept - 1))

pub keep_same : (all kept rest : List (List ℕ)) (x : List ℕ) → IsKept all kept (x ∷ rest) → is_new_text kept x ≡ false → IsKept all kept rest
keep_same all kept rest x k old = record {
  taken = k.taken ++ x ∷ [];
  is = append_assoc k.taken (x ∷ []) rest ∙ k.is;
  ascending = k.ascending;
  few = omega (arith, length-append k.taken (x ∷ []), k.few);
  within = λ t h. Contains-append_left k.taken (x ∷ []) t (k.within t h);
  whole = λ t h. ⊎_elim (λ a. k.whole t a) (λ e. subst (Contains kept) e there) (Contains-push_cases k.taken x t h);
}
  where
    some : 0 < length kept
    some = never_new kept x old

    same : get_or kept (length kept - 1) [] ≡ x
    same = (bytes_eq-Decides (get_or kept (length kept - 1) []) x).0 (not_false (bytes_eq (get_or kept (length kept - 1) []) x) (new_is_other kept x false some old))

    there : Contains kept x
    there = subst (Contains kept) same (Contains-get_or kept (length kept - 1) [] (omega (arith, some)))

pub keep_all : (all kept : List (List ℕ)) → IsKept all kept [] → IsAscending kept × (length kept ≤ length all) × ((t : List ℕ) → Contains kept t ↔ Contains all t)
keep_all all kept k =
    let e : k.taken ≡ all = sym (append-nil k.taken) ∙ k.is in
    rw (← e) (k.ascending, k.few, λ t. (k.within t, k.whole t))
