use Rattle.std.proofs.Common.{sym}
use Rattle.key_paths.proofs.Forms.{test_from_path, no_path}
use Rattle.key_paths.proofs.reading.is_path.Goals as goal

pub returns-in-None-clause-test : goal.returns-in-None-clause-test
returns-in-None-clause-test c = sym (test_from_path c.args.text.now c.in-None.ensures)

pub returns-in-Some-clause-test : goal.returns-in-Some-clause-test
returns-in-Some-clause-test c = sym (no_path c.args.text.now c.in-Some.ensures.none)
