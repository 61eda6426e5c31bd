-- How a step of a reader takes the first of the records that are left.
use Rattle.std.proofs.Common.{Bor, ◌≡◌, ◌∙◌, ◌<◌, ◌≤◌, ◌+◌, ◌⊎◌, ◌∷◌, inl, inr, [], ℕ, zero, suc, List, length, true, false, Bool, Some, None, Option, Result, Ok, Err, IfOk, OnOk, IfErr, unwrap_or, IsSome, refl, sym, ap, arith, add-one}
use Rattle.csv.specs.Machine.{Read, is_end, ends_at_end, next_record, step}
use Rattle.csv.specs.Reading.{is_bom, strip_bom, ExplainsRead, error_kind, stops_reader, Ready, NextIs, ReadRecord, ReadsNext, default_config, has_failed, is_flexible, pending_of, records_from, records_next, source_of, took_first}
use Rattle.csv.specs.declared.parser.Config.{Config}
use Rattle.csv.specs.declared.parser.State.{State}
use Rattle.csv.specs.declared.parser.State.TheVariants as st
use Rattle.csv.specs.declared.reader.Reader.{Reader}
use Rattle.csv.specs.declared.error.Error.{Error}
use Rattle.csv.specs.declared.error.ErrorKind.{ErrorKind}
use Rattle.csv.specs.declared.error.ErrorKind.TheVariants as kind
use Rattle.csv.specs.declared.reader.Trim.TheVariants as trim
use Rattle.table_load.specs.Records.{IsKept, IsPlain, left_in, records_at, records_left, records_of}
use Rattle.std.proofs.lemmas.Bool.{cases_Bool, false≢true}

-- what one step hands out of the records that are left: the first of them, or nothing where there is none
abbrev pub Handed : List (List (List ℕ)) → Bool → List (List ℕ) → List (List (List ℕ)) → Type 0
Handed [] found fields after = found ≡ false
Handed (r ∷ rs) found fields after = (found ≡ true) × (fields ≡ r) × (after ≡ rs)

-- a record takes a byte of the text, or all of it
abbrev pub Shorter : List ℕ → Read → Type 0
Shorter xs p = (length p.2 < length xs) ⊎ ((p.1 ≡ st.StartRecord) × (p.2 ≡ []))

read-parts : (r p : Read) → Some r ≡ Some p → (p.1 ≡ r.1) × (p.2 ≡ r.2)
read-parts r p e =
    let h = ap (λ (o : Option Read). unwrap_or o p) e in
    (sym (ap (λ (q : Read). q.1) h), sym (ap (λ (q : Read). q.2) h))

pub next-shorter : (cfg : Config) (xs : List ℕ) (s : State) (f : List (List ℕ)) (q : List ℕ) (p : Read) → next_record cfg s f q xs ≡ Some p → Shorter xs p
unfolding next_record
next-shorter cfg [] s f q p e =
    elim (cases_Bool (ends_at_end s)) [
      | inl ends ↦ inr (read-parts _ p (rw ends at e))
      | inr open_ ↦ let gone = rw open_ at e in cc
    ]
next-shorter cfg (c ∷ rest) s f q p e =
    elim (cases_Bool (is_end (step cfg s c).1)) [
      | inl ends ↦
          let h = read-parts _ p (rw ends at e) in
          inl (rw h.1 (omega arith))
      | inr more ↦
          elim (next-shorter cfg rest _ _ _ p (rw more at e)) [
            | inl less ↦ inl (omega arith)
            | inr all ↦ inr all
          ]
    ]

empty-from : (cfg : Config) (n : ℕ) → records_from cfg n st.StartRecord [] ≡ []
unfolding records_from next_record
empty-from cfg zero = refl
empty-from cfg (suc n) = refl

next-fuel : (cfg : Config) (n m : ℕ) (xs : List ℕ) (o : Option Read) → ((p : Read) → o ≡ Some p → Shorter xs p) → length xs < suc n → length xs < suc m
    → ((t : State) (ys : List ℕ) → length ys < n → length ys < m → records_from cfg n t ys ≡ records_from cfg m t ys)
    → records_next (records_from cfg n) o ≡ records_next (records_from cfg m) o
next-fuel cfg n m xs None h a b more = refl
next-fuel cfg n m xs (Some p) h a b more =
    elim (h p refl) [
      | inl less ↦ ap (λ (z : List (List (List ℕ))). p.0 ∷ z) (more p.1 p.2 (omega arith) (omega arith))
      | inr all ↦ ap (λ (z : List (List (List ℕ))). p.0 ∷ z) (rw (all.0, all.1) (empty-from cfg n ∙ sym (empty-from cfg m)))
    ]

-- with as many turns as there are bytes, and one more, the number of turns has no part in the records
pub fuel : (cfg : Config) (n m : ℕ) (s : State) (xs : List ℕ) → length xs < n → length xs < m → records_from cfg n s xs ≡ records_from cfg m s xs
unfolding records_from
fuel cfg zero m s xs a b = absurd (omega arith)
fuel cfg (suc n) zero s xs a b = absurd (omega arith)
fuel cfg (suc n) (suc m) s xs a b =
    next-fuel cfg n m xs (next_record cfg s [] [] xs) (next-shorter cfg xs s [] []) a b (λ t ys. fuel cfg n m t ys)

at-next : (s : State) (xs : List ℕ) → records_at s xs ≡ records_next (records_from default_config (length xs)) (next_record default_config s [] [] xs)
unfolding records_from
at-next s xs = ap (λ (n : ℕ). records_from default_config n s xs) (add-one (length xs))

at-none : (s : State) (xs : List ℕ) → next_record default_config s [] [] xs ≡ None → records_at s xs ≡ []
at-none s xs e = at-next s xs ∙ ap (λ (o : Option Read). records_next (records_from default_config (length xs)) o) e

at-some : (s : State) (xs : List ℕ) (p : Read) → next_record default_config s [] [] xs ≡ Some p → records_at s xs ≡ p.0 ∷ records_at p.1 p.2
at-some s xs p e =
    at-next s xs ∙ ap (λ (o : Option Read). records_next (records_from default_config (length xs)) o) e
    ∙ ap (λ (z : List (List (List ℕ))). p.0 ∷ z) (elim (next-shorter default_config xs s [] [] p e) as (λ _. records_from default_config (length xs) p.1 p.2 ≡ records_at p.1 p.2) [
      | inl less ↦ fuel default_config (length xs) (length p.2 + 1) p.1 p.2 less (omega arith)
      | inr all ↦ rw (all.0, all.1) (empty-from default_config (length xs) ∙ sym (empty-from default_config 1))
    ])

handed-next : (s : State) (xs : List ℕ) (o : Option Read) (found : Bool) (fields : List (List ℕ)) (s2 : State) (ys : List ℕ) → next_record default_config s [] [] xs ≡ o
    → NextIs o found fields s2 ys → Handed (records_at s xs) found fields (records_at s2 ys)
handed-next s xs None found fields s2 ys e n = rw (at-none s xs e) n
handed-next s xs (Some p) found fields s2 ys e n = rw (at-some s xs p e) (n.0, n.1, rw (n.2, n.3) refl)

handed-reads : (s : State) (xs : List ℕ) (k : Option (List ℕ)) (found : Bool) (fields : List (List ℕ)) (s2 : State)
    → ReadsNext default_config s (Some xs) k found fields s2 → Handed (records_at s xs) found fields (records_left s2 k) × IsSome k
handed-reads s xs None found fields s2 r = absurd r
handed-reads s xs (Some ys) found fields s2 r = (handed-next s xs _ found fields s2 ys refl r, refl)

handed-known : (s : State) (k0 k : Option (List ℕ)) (found : Bool) (fields : List (List ℕ)) (s2 : State) → IsSome k0
    → ReadsNext default_config s k0 k found fields s2 → Handed (records_left s k0) found fields (records_left s2 k) × IsSome k
handed-known s None k found fields s2 i r = absurd (false≢true i)
handed-known s (Some xs) k found fields s2 i r = handed-reads s xs k found fields s2 r

-- a step of a plain reader takes the first of the records that are left, and leaves a plain reader
pub step-plain : (a b : Reader (Bor (List ℕ))) (found : Bool) (fields : List (List ℕ)) → IsPlain a
    → ReadRecord (λ (s : Bor (List ℕ)). Some s.now) a b found fields → is_flexible b ≡ is_flexible a → took_first b ≡ true
    → Handed (left_in a) found fields (left_in b) × IsPlain b
step-plain a b found fields plain r flexible first =
    let (config, trim, loose, bare, headers, known) = plain in
    let reads = rw config at r.0 in
    let h = handed-known a.state _ _ found fields b.state known reads in
    let same : source_of (λ (s : Bor (List ℕ)). Some s.now) b ≡ pending_of (Some b.rdr.now) b = rw r.1 refl in
    (rw same h.0, (r.2 ∙ config, r.3 ∙ trim, flexible ∙ loose, r.4 ∙ bare, λ no. absurd (false≢true (sym no ∙ first)), rw same h.1))

plain-ready : (a : Reader (Bor (List ℕ))) → IsPlain a → Ready a
plain-ready a plain =
    elim (cases_Bool (took_first a)) [
      | inl first ↦ inl first
      | inr fresh ↦ inr (inr (plain.3, plain.4 fresh))
    ]

-- an error of a plain reader stops it
stopped : (a b : Reader (Bor (List ℕ))) (k : ErrorKind) → IsPlain a → ExplainsRead (λ (s : Bor (List ℕ)). Some s.now) a b false k → stops_reader k ≡ true
stopped a b (kind.Io e) plain w = refl
stopped a b kind.OutOfMemory plain w = refl
stopped a b (kind.UnequalLengths pos expected len) plain w = absurd (false≢true (sym w.0 ∙ plain.2))
stopped a b (kind.Utf8 pos err) plain w = absurd (false≢true w.0)
stopped a b (kind.Serialize why) plain w = absurd w
stopped a b (kind.Deserialize pos err) plain w = absurd w

-- what one read of a kept reader does
pub step-read : (a b : Reader (Bor (List ℕ))) (read : Result Bool Error) (fields : List (List ℕ)) → IsKept a
    → IfOk read (λ found. (a.trim ≡ trim.None) → Ready a → ReadRecord (λ (s : Bor (List ℕ)). Some s.now) a b found fields)
    → OnOk read (is_flexible b ≡ is_flexible a) → OnOk read (has_failed b ≡ has_failed a) → ((a.trim ≡ trim.None) → OnOk read (took_first b ≡ true))
    → ((has_failed a ≡ true) → read ≡ Ok false)
    → IfErr read (λ e. has_failed b ≡ stops_reader (error_kind e))
    → IfErr read (λ e. Ready a → ExplainsRead (λ (s : Bor (List ℕ)). Some s.now) a b false (error_kind e))
    → IfOk read (λ found. Handed (left_in a) found fields (left_in b)) × IsKept b
step-read a b (Ok found) fields kept reads flexible goes first failed fails why =
    elim (cases_Bool (has_failed a)) [
      | inl gone ↦
          let e = failed gone in
          let none : found ≡ false = cc in
          (rw gone none, λ going. absurd (false≢true (sym going ∙ goes ∙ gone)))
      | inr going ↦
          let plain = kept going in
          let h = step-plain a b found fields plain (reads plain.1 (plain-ready a plain)) flexible (first plain.1) in
          (h.0, λ _. h.1)
    ]
step-read a b (Err e) fields kept reads flexible goes first failed fails why =
    elim (cases_Bool (has_failed a)) [
      | inl gone ↦ let e = failed gone in cc
      | inr going ↦
          let plain = kept going in
          (tt, λ still. absurd (false≢true (sym still ∙ fails ∙ stopped a b (error_kind e) plain (why (plain-ready a plain)))))
    ]

-- what is said of a read is said of what it is turned into
pub same-found : {E F : Type 0} (read : Result Bool E) (turned : Result Bool F) (P : Bool → Type 0) → IfOk turned (λ found. read ≡ Ok found) → IfOk read P → IfOk turned P
same-found (Ok a) (Ok b) P e h = let same : a ≡ b = cc in rw (← same) h
same-found (Err a) (Ok b) P e h = let no = e in cc
same-found read (Err b) P e h = tt

few-next : (cfg : Config) (n : ℕ) (o : Option Read) → ((t : State) (ys : List ℕ) → length (records_from cfg n t ys) ≤ n) → length (records_next (records_from cfg n) o) ≤ suc n
few-next cfg n None h = omega arith
few-next cfg n (Some p) h = let k = h p.1 p.2 in omega arith

pub few-records : (cfg : Config) (n : ℕ) (s : State) (xs : List ℕ) → length (records_from cfg n s xs) ≤ n
unfolding records_from
few-records cfg zero s xs = omega arith
few-records cfg (suc n) s xs = few-next cfg n (next_record cfg s [] [] xs) (λ t ys. few-records cfg n t ys)

short-stripped : (xs : List ℕ) → length (strip_bom xs) ≤ length xs
unfolding strip_bom
short-stripped [] = omega arith
short-stripped (a ∷ []) = omega arith
short-stripped (a ∷ b ∷ []) = omega arith
short-stripped (a ∷ b ∷ c ∷ rest) =
    elim (cases_Bool (is_bom a b c)) [
      | inl mark ↦ rw mark (omega arith)
      | inr plain ↦ rw plain (omega arith)
    ]

-- a text has at most one record more than bytes
pub few-of : (bytes : List ℕ) → length (records_of bytes) ≤ length bytes + 1
few-of bytes = let a = few-records default_config (length (strip_bom bytes) + 1) st.StartRecord (strip_bom bytes) in let b = short-stripped bytes in omega arith

pub handed-more : (left : List (List (List ℕ))) (found : Bool) (fields : List (List ℕ)) (after : List (List (List ℕ))) → Handed left found fields after → found ≡ true → left ≡ fields ∷ after
handed-more [] found fields after h e = absurd (false≢true (sym h ∙ e))
handed-more (r ∷ rs) found fields after h e = rw (h.1, h.2) refl

pub handed-end : (left : List (List (List ℕ))) (found : Bool) (fields : List (List ℕ)) (after : List (List (List ℕ))) → Handed left found fields after → found ≡ false → left ≡ []
handed-end [] found fields after h e = refl
handed-end (r ∷ rs) found fields after h e = absurd (false≢true (sym e ∙ h.0))

-- the two clauses of a step, from what it hands out
pub both-clauses : {F : Type 0} (left after : List (List (List ℕ))) (fields : List (List ℕ)) (r : Result Bool F) → IfOk r (λ found. Handed left found fields after)
    → IfOk r (λ found. found ≡ true → left ≡ fields ∷ after) × IfOk r (λ found. found ≡ false → left ≡ [])
both-clauses left after fields (Ok found) h = (handed-more left found fields after h, handed-end left found fields after h)
both-clauses left after fields (Err e) h = (tt, tt)
