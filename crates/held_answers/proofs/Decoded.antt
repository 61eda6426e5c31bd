-- A value that can be shown is told by its slot: a text is named by its code in the dictionary.
use Rattle.std.proofs.Common.{◌≡◌, ◌∙◌, ℕ, true, false, List, [], get_or, refl, sym, ap}
use Rattle.std.specs.Prelude.{slice_index_or}
use Rattle.std.specs.Str.{bytes_eq}
use Rattle.std.proofs.lemmas.Bool.{false≢true}
use Rattle.std.proofs.lemmas.Cmp.{nat_list_cmp_total, tied_itself}
use Rattle.std.proofs.lemmas.List.Folds.{Any-from_list_any}
use Rattle.std.proofs.lemmas.Option.{get_or_from_slice_get, slice_get-get_or}
use Rattle.std.proofs.lemmas.Slice.Eq.{bytes_eq-Decides}
use Rattle.dict_codes.specs.Dictionaries.{dictionary_of, is_among, rank_in}
use Rattle.dict_codes.proofs.AscendingLaws.{ascending-sorted}
use Rattle.dict_codes.proofs.DictionaryLaws.{rank_at}
use Rattle.sql_values.specs.Texts.{by_bytes}
use Rattle.sql_values.specs.Values.{Value, number, text, truth, null}
use Rattle.table_load.specs.Databases.{coded}
use Rattle.typed_trees.specs.declared.kinds.Kind.{Kind}
use Rattle.typed_trees.specs.declared.kinds.Kind.TheVariants.{Number, Date, Text, Truth}
use Rattle.typed_trees.specs.Typed.{is_value}
use Rattle.answer_print.specs.Held.{held_value}
use Rattle.held_answers.specs.Shown.{is_shown}

-- a text among those of a dictionary is named by its code
named_again : (texts : List (List ℕ)) (t : List ℕ) → is_among (dictionary_of texts) t ≡ true → slice_index_or (dictionary_of texts) (rank_in (dictionary_of texts) t) [] ≡ t
named_again texts t h =
    let d = dictionary_of texts in
    let x = Any-from_list_any (bytes_eq t) d h in
    let same : t ≡ x.1 = (bytes_eq-Decides t x.1).0 x.4 in
    let there : get_or d x.0 [] ≡ t = get_or_from_slice_get d x.0 (get_or d x.0 x.1) [] (slice_get-get_or d x.0 x.1 x.2) ∙ (x.3 ∙ sym same) in
    let rank = rank_at d t x.0 (ascending-sorted nat_list_cmp_total texts) x.2 (ap (λ (a : List ℕ). by_bytes a t) there ∙ tied_itself nat_list_cmp_total t) in
    ap (λ n. get_or d n []) rank ∙ there

pub decoded : (texts : List (List ℕ)) (k : Kind) (v : Value) → is_value k ≡ true → is_shown (dictionary_of texts) k v ≡ true → held_value (dictionary_of texts) k (coded (dictionary_of texts) v) ≡ v
decoded texts k null is h = refl
decoded texts Number (number z) is h = refl
decoded texts Date (number z) is h = refl
decoded texts Text (text t) is h = ap text (named_again texts t h)
decoded texts Truth (number z) is h = absurd (false≢true is)
decoded texts Truth (text t) is h = absurd (false≢true is)
decoded texts Truth (truth true) is h = absurd (false≢true is)
decoded texts Truth (truth false) is h = absurd (false≢true is)
decoded texts Text (number z) is h = absurd (false≢true h)
decoded texts Number (text t) is h = absurd (false≢true h)
decoded texts Date (text t) is h = absurd (false≢true h)
decoded texts Number (truth b) is h = absurd (false≢true h)
decoded texts Date (truth b) is h = absurd (false≢true h)
decoded texts Text (truth b) is h = absurd (false≢true h)
