-- Where the longest end of a path without a slash begins.
use Rattle.std.proofs.Common.{◌≡◌, ◌≢◌, ◌+◌, ◌-◌, ◌<◌, ℕ, List, [], true, false, refl, ap, sym, ◌∙◌, arith, get_or, length, take}
use Rattle.std.specs.List.{suffix_len}
use Rattle.std.proofs.lemmas.List.Sums.{suffix_len_is}
use Rattle.std.proofs.lemmas.Bool.Decides.{nat_tests}
use Rattle.run_steps.specs.Paths.{is_no_slash, folder_of}

no_slash : (byte : ℕ) → byte ≢ 47 → is_no_slash byte ≡ true
no_slash byte h = grind (arith, nat_tests, h)

slash : (byte : ℕ) → byte ≡ 47 → is_no_slash byte ≡ false
slash byte h = rw h refl

-- a path without a slash has no folder
pub folder_of-bare : (path : List ℕ) → ((i : ℕ) → i < length path → get_or path i 0 ≢ 47) → [] ≡ folder_of path
folder_of-bare path none =
    let all : suffix_len is_no_slash path ≡ length path - 0 = suffix_len_is is_no_slash path 0 0 (omega arith) (λ k from to. no_slash _ (none k to)) (λ l. absurd (omega (arith, l))) in
    let start : length path - suffix_len is_no_slash path ≡ 0 = omega (arith, all) in
    sym (ap (λ n. take n path) start)

-- one whose last slash stands at a place has the part through that place
pub folder_of-slash : (path : List ℕ) (i : ℕ) → i < length path → get_or path i 0 ≡ 47 → ((k : ℕ) → i < k → k < length path → get_or path k 0 ≢ 47) → take (i + 1) path ≡ folder_of path
folder_of-slash path i within here none =
    let all : suffix_len is_no_slash path ≡ length path - (i + 1) =
    suffix_len_is is_no_slash path (i + 1) 0 (omega arith) (λ k from to. no_slash _ (none k (omega arith) to)) (λ _. slash _ (ap (λ k. get_or path k 0) (omega arith) ∙ here)) in
    ap (λ n. take n path) (omega (arith, all, within))
