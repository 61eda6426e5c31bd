use Rattle.std.proofs.Common.{◌<◌, length, vec_len, ◌∙◌, arith}
use Rattle.std.proofs.lemmas.Grind.{common_steps}
use Rattle.sql_read.specs.Tokens.{tokens, token_of}
use Rattle.sql_read.proofs.TokenList.{goes_on, ends_full, taken_room}
use Rattle.sql_read.proofs.token_list.tokens.Goals as goal

pub returns-then-not-branch : goal.returns-then-not-branch
unfolding tokens
returns-then-not-branch c =
    let some : 0 < length c.loop-z.z.now = grind (arith, common_steps) in
    let h = rw c.if-not-branch.true at (rw c.token_of.ensures at c.in_ok-take_in.ensures) in
    ends_full c.args.limit (vec_len c.loop-z.out) (vec_len c.take_in.new.out) c.loop-z.at c.loop-z.out.items c.take_in.new.out.items c.loop-z.z.now c.front-piece.result c.front-piece.ensures.value some c.front-piece.ensures.within.0 h
    ∙ c.loop-z.invariant.so_far

pub loop-z-preserved : goal.loop-z-preserved
loop-z-preserved c =
    let some : 0 < length c.loop-z.z.now = grind (arith, common_steps) in
    let h = rw c.if-not-branch.false at (rw c.token_of.ensures at c.in_ok-take_in.ensures) in
    record {
      so_far = goes_on c.args.limit (vec_len c.loop-z.out) (vec_len c.take_in.new.out) c.loop-z.at c.loop-z.out.items c.take_in.new.out.items c.loop-z.z.now c.front-piece.result c.front-piece.ensures.value some c.front-piece.ensures.within.0 h
          ∙ c.loop-z.invariant.so_far;
      room = taken_room c.args.limit (vec_len c.loop-z.out) (vec_len c.take_in.new.out) (token_of c.loop-z.at c.front-piece.result) c.loop-z.out.items c.take_in.new.out.items h c.loop-z.invariant.room;
      place = grind (arith, common_steps);
    }

pub returns : goal.returns
unfolding tokens
returns c = grind (arith, common_steps)
