-- Two lists of attributes, kept in reverse, as one: the first that is left.
use Rattle.std.proofs.Common.{◌≡◌, ℕ, ◌+◌, ◌-◌, ◌<◌, true, false, [], ◌∷◌, ◌++◌, length, get_or, refl, sym, ap, ◌∙◌, arith, Option, Some, None}
use Rattle.std.specs.Prelude.{reverse}
use Rattle.std.specs.Option.{option_to_list}
use Rattle.std.proofs.lemmas.List.{get_or-reverse, reverse-append, length-reverse}
use Rattle.programs.specs.Mentions.{Label}
use Rattle.programs.specs.Merges.{merged}
use Rattle.programs.proofs.Merging.{merged_first, merged_second}
use Rattle.struct_vectors.specs.Columns.{ColumnValue}
use Rattle.voodoo_ops.specs.Columns.{Attributes, earlier, no_attribute}
use Rattle.voodoo_ops.specs.Handing.{last_of, TakesLast}

append_empty : (xs : Attributes) → xs ++ [] ≡ xs
append_empty [] = refl
append_empty (x ∷ xs) = ap (λ (l : Attributes). x ∷ l) (append_empty xs)

length_end : (xs : Attributes) (t : Label × ColumnValue) → length (xs ++ t ∷ []) ≡ length xs + 1
length_end [] t = refl
length_end (x ∷ xs) t = omega (arith, length_end xs t)

last_end : (xs : Attributes) (t d : Label × ColumnValue) → get_or (xs ++ t ∷ []) (length xs) d ≡ t
last_end [] t d = refl
last_end (x ∷ xs) t d = last_end xs t d

last_is : (xs old : Attributes) (t : Label × ColumnValue) → old ≡ xs ++ t ∷ [] → last_of old ≡ t
last_is xs old t e =
    let n : length old - 1 ≡ length xs = omega (arith, ap (λ (l : Attributes). length l) e, length_end xs t) in
    ap (λ (k : ℕ). get_or old k no_attribute) n ∙ ap (λ (l : Attributes). get_or l (length xs) no_attribute) e ∙ last_end xs t no_attribute

-- the first of a list that is kept in reverse
first_is : (l rest : Attributes) (t : Label × ColumnValue) → reverse l ≡ t ∷ rest → (0 < length l) × (last_of l ≡ t)
first_is l rest t e =
    let some : 0 < length l = omega (arith, length-reverse l, ap (λ (k : Attributes). length k) e) in
    let n : length l - 1 - 0 ≡ length l - 1 = omega arith in
    (some, ap (λ (k : ℕ). get_or l k no_attribute) (sym n) ∙ sym (get_or-reverse l 0 no_attribute some) ∙ ap (λ (k : Attributes). get_or k 0 no_attribute) e)

reverse_end : (now old : Attributes) (t : Label × ColumnValue) → old ≡ now ++ t ∷ [] → reverse old ≡ t ∷ reverse now
reverse_end now old t e = ap (λ (l : Attributes). reverse l) e ∙ reverse-append now (t ∷ [])

pub popped_second : (left right now : Attributes) (o : Option (Label × ColumnValue)) → TakesLast left right true → right ≡ now ++ option_to_list o → merged earlier (reverse left) (reverse right) ≡ option_to_list o ++ merged earlier (reverse left) (reverse now)
popped_second left right now None takes e = ap (λ (l : Attributes). merged earlier (reverse left) (reverse l)) (e ∙ append_empty now)
popped_second left right now (Some t) takes e =
    ap (merged earlier (reverse left)) (reverse_end now right t e)
    ∙ merged_second earlier (reverse left) (reverse now) t
    (λ x rest q.
    let f = first_is left rest x q in
    ap (λ (u : Label × ColumnValue). earlier u x) (sym (last_is now right t e)) ∙ ap (earlier (last_of right)) (sym f.1) ∙ takes.1 f.0)

pub popped_first : (left right now : Attributes) (o : Option (Label × ColumnValue)) → TakesLast left right false → left ≡ now ++ option_to_list o → merged earlier (reverse left) (reverse right) ≡ option_to_list o ++ merged earlier (reverse now) (reverse right)
popped_first left right now None takes e = ap (λ (l : Attributes). merged earlier (reverse l) (reverse right)) (e ∙ append_empty now)
popped_first left right now (Some t) takes e =
    ap (λ (l : Attributes). merged earlier l (reverse right)) (reverse_end now left t e)
    ∙ merged_first earlier (reverse now) (reverse right) t
    (λ y rest q.
    let f = first_is right rest y q in
    ap (earlier y) (sym (last_is now left t e)) ∙ ap (λ (u : Label × ColumnValue). earlier u (last_of left)) (sym f.1) ∙ (takes f.0).1)

-- nothing is left
pub none_left : (left right : Attributes) → length left ≡ 0 → length right ≡ 0 → merged earlier (reverse left) (reverse right) ≡ []
none_left [] [] h k = refl
none_left [] (t ∷ right) h k = absurd (omega arith)
none_left (t ∷ left) right h k = absurd (omega arith)
