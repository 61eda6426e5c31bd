-- Two ways to cut one list.
use Rattle.std.proofs.Common.{◌≡◌, ◌<◌, List, [], ◌∷◌, ◌++◌, length, refl, ap, arith, length-append}

-- of two ways to cut a list, the front with the shorter rest goes on with the other's
pub front_goes_on : {T : Type 0} (before text short : List T) (t : T) (post : List T) → text ++ short ≡ before ++ t ∷ post → length short < length (t ∷ post) → (more : List T) × (text ≡ (before ++ t ∷ []) ++ more)
front_goes_on [] [] short t post e h = let x = ap length e in absurd (omega arith)
front_goes_on [] (u ∷ text) short t post e h = (text, (let x : u ≡ t = cc in ap (λ y. y ∷ text) x))
front_goes_on (b ∷ before) [] short t post e h = let x = ap length e in absurd (omega (arith, length-append before (t ∷ post)))
front_goes_on (b ∷ before) (u ∷ text) short t post e h =
    let x : u ≡ b = cc in
    let y : text ++ short ≡ before ++ t ∷ post = cc in
    let z = front_goes_on before text short t post y h in
    (z.0, (λ i. x i ∷ z.1 i))

-- with rests of one length two ways to cut a list are one
pub same_cut : {T : Type 0} (a b c d : List T) → a ++ b ≡ c ++ d → length b ≡ length d → (a ≡ c) × (b ≡ d)
same_cut [] b [] d e h = (refl, e)
same_cut [] b (x ∷ c) d e h = let y = ap length e in absurd (omega (arith, length-append c d))
same_cut (x ∷ a) b [] d e h = let y = ap length e in absurd (omega (arith, length-append a b))
same_cut (x ∷ a) b (z ∷ c) d e h =
    let y : x ≡ z = cc in
    let w : a ++ b ≡ c ++ d = cc in
    let v = same_cut a b c d w h in
    ((λ i. y i ∷ v.0 i), v.1)
