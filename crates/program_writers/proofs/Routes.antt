-- Which texts of the parts are paths.
use Rattle.std.proofs.Common.{◌≡◌, ℕ, suc, ◌+◌, ◌<◌, ◌≤◌, ◌^◌, Bool, true, false, ◌&&◌, nat_le, List, [], ◌∷◌, ◌++◌, length, refl, sym, ap, ◌∙◌, subst, append_assoc, append-nil, length-append, arith, decimal, le-leb}
use Rattle.std.specs.List.{list_all}
use Rattle.std.specs.Prelude.{codes}
use Rattle.std.specs.Char.{is_ascii_digit}
use Rattle.std.proofs.lemmas.Bool.{and_parts, false≢true}
use Rattle.std.proofs.lemmas.Bool.Decides.{nat_tests}
use Rattle.std.proofs.lemmas.Fmt.{length-decimal-le}
use Rattle.std.proofs.lemmas.List.Folds.{list_all-append}
use Rattle.key_paths.specs.Paths.{IsPath, is_segment, begins_segment, is_in_segment, dotted_text, path_text}
use Rattle.key_paths.specs.Substructures.{is_root}
use Rattle.key_paths.proofs.Bools.{all_weaker}
use Rattle.programs.specs.Mentions.{Label}
use Rattle.program_writers.proofs.Digits.{printed, all_digits}
use Rattle.program_writers.specs.Statements.{out, mark, val, run}

pub path_out : IsPath out
path_out = record { segments = codes "out" ∷ []; few = omega arith; each = refl; is = refl }

pub path_mark : IsPath mark
path_mark = record { segments = codes "mark" ∷ []; few = omega arith; each = refl; is = refl }

pub path_val : IsPath val
path_val = record { segments = codes "val" ∷ []; few = omega arith; each = refl; is = refl }

pub path_run : IsPath run
path_run = record { segments = codes "run" ∷ []; few = omega arith; each = refl; is = refl }

-- ---- a number behind a path

abbrev extended : List Label → Label → List Label
extended [] ds = []
extended (s ∷ []) ds = (s ++ ds) ∷ []
extended (s ∷ t ∷ rest) ds = s ∷ extended (t ∷ rest) ds

dotted_extended : (s : Label) (rest : List Label) (ds : Label) → dotted_text (extended (s ∷ rest) ds) ≡ dotted_text (s ∷ rest) ++ ds
dotted_extended s [] ds = ap (λ (l : Label). 46 ∷ l) (append-nil (s ++ ds) ∙ ap (λ (l : Label). l ++ ds) (sym (append-nil s)))
dotted_extended s (t ∷ rest) ds = ap (λ (l : Label). 46 ∷ l) (ap (λ (l : Label). s ++ l) (dotted_extended t rest ds) ∙ sym (append_assoc s (dotted_text (t ∷ rest)) ds))

length_extended : (ss : List Label) (ds : Label) → length (extended ss ds) ≡ length ss
length_extended [] ds = refl
length_extended (s ∷ []) ds = refl
length_extended (s ∷ t ∷ rest) ds = ap suc (length_extended (t ∷ rest) ds)

both : (a b : Bool) → a ≡ true → b ≡ true → (a && b) ≡ true
both a b e f = rw (e, f) refl

segment_extended : (s ds : Label) → is_segment s ≡ true → list_all is_in_segment ds ≡ true → length s + length ds ≤ 64 → is_segment (s ++ ds) ≡ true
segment_extended [] ds h d short = absurd cc
segment_extended (x ∷ s) ds h d short =
    let p = and_parts (begins_segment x) (list_all is_in_segment s && nat_le (length s) 63) h in
    let q = and_parts (list_all is_in_segment s) (nat_le (length s) 63) p.1 in
    both (begins_segment x) (list_all is_in_segment (s ++ ds) && nat_le (length (s ++ ds)) 63) p.0
    (both (list_all is_in_segment (s ++ ds)) (nat_le (length (s ++ ds)) 63)
    (list_all-append is_in_segment s ds ∙ both (list_all is_in_segment s) (list_all is_in_segment ds) q.0 d)
    (le-leb (length (s ++ ds)) 63 (omega (arith, length-append s ds))))

each_extended : (s : Label) (rest : List Label) (ds : Label) → list_all is_segment (s ∷ rest) ≡ true → list_all is_in_segment ds ≡ true → length (dotted_text (s ∷ rest)) + length ds ≤ 64 → list_all is_segment (extended (s ∷ rest) ds) ≡ true
each_extended s [] ds h d short =
    let p = and_parts (is_segment s) true h in
    both (is_segment (s ++ ds)) true (segment_extended s ds p.0 d (omega (arith, length-append s []))) refl
each_extended s (t ∷ rest) ds h d short =
    let p = and_parts (is_segment s) (list_all is_segment (t ∷ rest)) h in
    both (is_segment s) (list_all is_segment (extended (t ∷ rest) ds)) p.0 (each_extended t rest ds p.1 d (omega (arith, length-append s (dotted_text (t ∷ rest)))))

path_extended : (word ds : Label) (ss : List Label) → length ss ≤ 8 → list_all is_segment ss ≡ true → word ≡ path_text ss → is_root word ≡ false → list_all is_in_segment ds ≡ true → length word + length ds ≤ 64 → IsPath (word ++ ds)
path_extended word ds [] few each is root d short = absurd (false≢true (sym root ∙ ap is_root is))
path_extended word ds (s ∷ rest) few each is root d short = record {
  segments = extended (s ∷ rest) ds;
  few = omega (arith, length_extended (s ∷ rest) ds);
  each = each_extended s rest ds each d (omega (arith, ap length is));
  is = ap (λ (l : Label). l ++ ds) is ∙ sym (dotted_extended s rest ds) ∙ sym (text_of s rest);
}
  where
    text_of : (s : Label) (rest : List Label) → path_text (extended (s ∷ rest) ds) ≡ dotted_text (extended (s ∷ rest) ds)
    text_of s [] = refl
    text_of s (t ∷ rest) = refl

digit_in_segment : (x : ℕ) → is_ascii_digit x ≡ true → is_in_segment x ≡ true
digit_in_segment x h = grind (arith, nat_tests)

pub numbered_path : (word : Label) (k : ℕ) → IsPath word → is_root word ≡ false → length word ≤ 40 → k < 2 ^ 64 → IsPath (word ++ decimal k)
numbered_path word k path root short small =
    path_extended word (decimal k) path.segments path.few path.each path.is root
    (all_weaker is_ascii_digit is_in_segment digit_in_segment (decimal k) (subst (λ (ds : Label). list_all is_ascii_digit ds ≡ true) (printed k small) (all_digits k)))
    (omega (arith, length-decimal-le 20 k (omega arith) (omega arith) small))
