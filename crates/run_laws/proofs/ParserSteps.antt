-- A parser that never comes to want of memory, and that each way to put parsers together keeps it.
use Rattle.std.proofs.Common.{◌≡◌, ℕ, zero, suc, Bool, true, false, List, [], ◌∷◌, length, Ok, Err, ⊎_elim, if◌then◌else◌, ap}
use Rattle.phrases.specs.declared.refusal.ReadError.{ReadError}
use Rattle.phrases.specs.declared.refusal.ReadError.TheVariants.{NoMemory, Refused}
use Rattle.phrases.specs.Phrases.{Phrase}
use Rattle.phrases.specs.Parsers.{Outcome, Parser, ◌>>=◌, pure, refuse, expect, next, either, turns, repeat, ended}
use Rattle.phrases.proofs.Good.{Fits, bind_err}

pub record Parses {T F A : Type 0} (p : Parser T F A) : Type 0 where
  pub never : (ts : List T) → p ts ≡ Err NoMemory → ⊥

pub parses_pure : {T F A : Type 0} (a : A) → Parses {T = T} {F = F} (pure a)
parses_pure a = record { never = λ ts h. cc }

pub parses_refuse : {T F A : Type 0} (fault : F) → Parses {T = T} {A = A} (refuse fault)
parses_refuse fault = record { never = λ ts h. cc }

pub parses_expect : {T F : Type 0} (fault : F) (test : T → Bool) → Parses (expect fault test)
unfolding expect
parses_expect {T = T} {F = F} fault test = record { never = never }
  where
    tested : (b : Bool) (t : T) (ts : List T) → ◌≡◌ {A = Outcome T F T} (if b then Ok (t, ts) else Err (Refused fault (length (t ∷ ts)))) (Err NoMemory) → ⊥
    tested true t ts h = cc
    tested false t ts h = cc

    never : (ts : List T) → expect fault test ts ≡ Err NoMemory → ⊥
    never [] h = cc
    never (t ∷ ts) h = tested (test t) t ts h

pub parses_then : {T F A B : Type 0} {p : Parser T F A} {q : A → Parser T F B} → Parses p → ((a : A) → Parses (q a)) → Parses (p >>= q)
parses_then {p = p} {q = q} h g = record { never = λ ts e. ⊎_elim (λ x. h.never ts x) (λ x. (g x.0).never x.1 x.3) (bind_err (p ts) q NoMemory e) }

pub parses_either : {T F A : Type 0} {p q : Parser T F A} (sel : T → Bool) → Parses p → Parses q → Parses (either sel p q)
parses_either {T = T} {F = F} {A = A} {p = p} {q = q} sel h g = record { never = λ ts. by_next ts (next sel ts) }
  where
    by_next : (ts : List T) (b : Bool) → (if b then p ts else q ts) ≡ Err NoMemory → ⊥
    by_next ts true e = h.never ts e
    by_next ts false e = g.never ts e

parses_turns : {T F A : Type 0} (sel : T → Bool) (turn : A → Parser T F A) → ((a : A) → Parses (turn a)) → (n : ℕ) (a : A) → Parses (turns sel turn n a)
unfolding turns
parses_turns sel turn h zero a = parses_pure a
parses_turns sel turn h (suc n) a = parses_either sel (parses_then (h a) (parses_turns sel turn h n)) (parses_pure a)

pub parses_repeat : {T F A : Type 0} {turn : A → Parser T F A} (sel : T → Bool) → ((a : A) → Parses (turn a)) → (a : A) → Parses (repeat sel turn a)
parses_repeat {turn = turn} sel h a = record { never = λ ts. (parses_turns sel turn h (length ts) a).never ts }

-- a parser that fits a phrase refuses at one of its tokens
pub parses_phrase : {T F A : Type 0} (gap : T → Bool) (L : Phrase T A) (stop : T → Bool) (p : Parser T F A) → Fits gap L stop p → Parses p
parses_phrase gap L stop p g = record { never = λ ts h. let r = g.refuses ts NoMemory h in let is = r.is in cc }

-- and so does a parser of a whole text
pub ended_never : {T F A : Type 0} (fault : F) (r : Outcome T F A) → (r ≡ Err NoMemory → ⊥) → ended fault r ≡ Err NoMemory → ⊥
ended_never fault (Ok (a, [])) h e = cc
ended_never fault (Ok (a, t ∷ ts)) h e = cc
ended_never {T = T} {F = F} {A = A} fault (Err d) h e = let same : d ≡ NoMemory = cc in h (ap (λ (x : ReadError F). Err x) same)
