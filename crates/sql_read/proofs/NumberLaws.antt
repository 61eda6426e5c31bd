-- Every token of a text has a value of at most 2^127 - 1, and a scale of at most 18.
use Rattle.std.proofs.Common.{ℕ, zero, suc, ◌+◌, ◌-◌, ◌≤◌, false, [], ◌∷◌, drop, length, arith}
use Rattle.std.specs.Prelude.{Option, Some, None}
use Rattle.std.specs.List.{All}
use Rattle.std.specs.Option.{option_to_list}
use Rattle.std.proofs.lemmas.List.Elements.{All-nil, All-cons, All-head, All-tail, All-append}
use Rattle.sql_read.specs.declared.kind.Kind.{Kind}
use Rattle.sql_read.specs.declared.kind.Kind.TheVariants as k
use Rattle.sql_read.specs.declared.lexis.Piece.{Piece}
use Rattle.sql_read.specs.declared.token_list.Token.{Token}
use Rattle.sql_read.specs.Lexis as lexis
use Rattle.sql_read.specs.Lexis.{Bytes, front, plain, max_integer, max_scale}
use Rattle.sql_read.specs.Numbers.{IsMeasured}
use Rattle.sql_read.specs.Tokens.{Tokens, token_of, tokens_from, unless_blank, past, limited, tokens}
use Rattle.sql_read.proofs.Fronts.{of_front}

record IsPiece (p : Piece) : Type 0 where
  value : p.value ≤ max_integer
  scale : p.scale ≤ max_scale

without : (kind : Kind) (len : ℕ) → IsPiece (plain kind len)
without kind len = record { value = omega arith; scale = omega arith }

closed_measured : (len : ℕ) (end : Option ℕ) → IsPiece (lexis.closed len end)
closed_measured len None = without k.BadToken len
closed_measured len (Some n) = without k.Quoted n

front_measured : (z : Bytes) → IsPiece (front z)
front_measured z = of_front IsPiece z (λ _. without _ _) (λ kind len n scale h v s. record { value = v; scale = s }) (λ _. closed_measured (length z) (lexis.closing false 1 (drop 1 z))) (λ kind len h. without kind len)

one_measured : (kind : Kind) (t : Token) → IsMeasured t → All IsMeasured (option_to_list (unless_blank kind t))
one_measured k.Blank t h = All-nil IsMeasured
one_measured kind t h = All-cons IsMeasured t [] h (All-nil IsMeasured)

measured_from : (left at : ℕ) (z : Bytes) → All IsMeasured (tokens_from left at z)
measured_from left at [] = All-nil IsMeasured
measured_from (suc left) at (b ∷ z) = measured_from left (at + 1) z
measured_from zero at (b ∷ z) =
    let p = front (b ∷ z) in
    let m = front_measured (b ∷ z) in
    All-append IsMeasured (option_to_list (token_of at p)) _ (one_measured p.kind _ (record { value = m.value; scale = m.scale })) (measured_from (p.len - 1) (at + 1) z)

measured_limited : (n : ℕ) (ts : Tokens) → All IsMeasured ts → All IsMeasured (limited n ts)
measured_limited n [] h = All-nil IsMeasured
measured_limited zero (t ∷ ts) h = let m = All-head IsMeasured t ts h in All-cons IsMeasured (past t) [] (record { value = m.value; scale = m.scale }) (All-nil IsMeasured)
measured_limited (suc n) (t ∷ ts) h = All-cons IsMeasured t _ (All-head IsMeasured t ts h) (measured_limited n ts (All-tail IsMeasured t ts h))

pub tokens_are_measured : (text : Bytes) (n : ℕ) → All IsMeasured (tokens n text)
unfolding tokens
tokens_are_measured text n = measured_limited n (tokens_from 0 0 text) (measured_from 0 0 text)
