use Rattle.std.proofs.Common.{◌≡◌, false, rules, ap, sym, ◌∙◌, arith}
use Rattle.std.specs.Prelude.{nat_le}
use Rattle.sql_read.specs.Lexis.{digits_after, max_integer}
use Rattle.sql_read.proofs.Digits.{none_wide}
use Rattle.sql_read.proofs.lexis.continued.Goals as goal

pub returns-then-value : goal.returns-then-value
returns-then-value c =
    let wide : nat_le (digits_after c.args.start c.args.z.now) max_integer ≡ false = sym (ap (λ n. nat_le n max_integer) c.loop-z.invariant) ∙ none_wide c.loop-z.value c.loop-z.z.now (omega arith) c.if-value.true in
    rw wide search rules
