-- The laws of a plan's program, from those of its parts.
use Rattle.value_laws.specs.Laws.{KindLaw}
use Rattle.expr_counts.specs.Counts.{CountLaw, NodeLaw}
use Rattle.expr_values.specs.Laws.{ValueLaw, BlankLaw, KnownLaw}
use Rattle.query_answers.specs.Answers.{FromRow, on_row}
use Rattle.held_groups.proofs.Codes.{code_law}
use Rattle.voodoo_ops.proofs.Compositions.{meaning_laws}
use Rattle.writer_runs.proofs.Shown.{result_laws}
use Rattle.writer_runs.proofs.Standing.{stand_laws}
use Rattle.writer_runs.proofs.Used.{used_laws}
use Rattle.lowered_rows.proofs.Checks.{rows_passes}
use Rattle.lowered_rows.proofs.Runs.{rows_runs}
use Rattle.lowered_rows.proofs.Uses.{rows_uses}
use Rattle.lowered_kept.specs.Values.{ValueRuns}
use Rattle.lowered_kept.proofs.KeptRows.{conditions_run}
use Rattle.lowered_kept.proofs.Passed.{kept_passes, value_passes}
use Rattle.lowered_kept.proofs.Reached.{kept_uses}
use Rattle.lowered_kept.proofs.Stated.{value_uses}
use Rattle.lowered_kept.proofs.Valued.{value_runs}
use Rattle.lowered_group_checks.proofs.GroupsUsed.{groups_used}
use Rattle.lowered_group_checks.proofs.WholePass.{groups_pass}
use Rattle.lowered_groups.proofs.GroupsMade.{groups_run}
use Rattle.lowered_items.proofs.Alone.{hold_law}
use Rattle.lowered_items.proofs.Attributes.{path_law}
use Rattle.lowered_items.proofs.ItemsPass.{all_items_pass}
use Rattle.lowered_items.proofs.ItemsRun.{items_run}
use Rattle.lowered_items.proofs.ItemsUsed.{items_use}
use Rattle.lowered_premises.specs.Laws.{SourceLaw}
use Rattle.lowered_answers.specs.Laws.{AnswerLaw, CheckLaw}
use Rattle.lowered_answers.proofs.Checks.{PassLaws}
use Rattle.lowered_answers.proofs.Places.{grouped_places}
use Rattle.lowered_answers.proofs.Runs.{RunLaws, Premises}
use Rattle.lowered_answers.proofs.Uses.{UseLaws}
use Rattle.lowered_answers.proofs.Whole.{AllLaws, answer_holds, check_holds}

-- what the crates below give as contracts
pub record Given : Type 0 where
  pub kind : KindLaw
  pub known : KnownLaw
  pub value : ValueLaw
  pub blank : BlankLaw
  pub nodes : NodeLaw
  pub counts : CountLaw
  pub source : SourceLaw
  pub premises : Premises

run_laws : Given → RunLaws
run_laws g =
    let values : ValueRuns = value_runs g.value g.blank g.counts in
    record {
      rows_run = rows_runs;
      kept_run = conditions_run g.kind values;
      grouped_run = groups_run g.kind g.known (λ texts at held store env b word e k. values FromRow texts at on_row held store env b word e k);
      items_run = items_run g.kind g.known (λ texts kind v w iv iw kv kw. code_law texts kind v w (record { is = iv; known = kv }) (record { is = iw; known = kw })) values;
    }

pass_laws : Given → PassLaws
pass_laws g = record {
  rows_pass = rows_passes;
  kept_pass = kept_passes (value_passes g.counts);
  grouped_pass = groups_pass (value_passes g.counts);
  items_pass = (all_items_pass (value_passes g.counts)).0;
}

use_laws : UseLaws
use_laws = record {
  used = used_laws;
  rows_used = rows_uses;
  kept_used = kept_uses;
  grouped_used = groups_used value_uses;
  items_used = items_use value_uses;
}

all_laws : Given → AllLaws
all_laws g = record {
  runs = run_laws g;
  premises = g.premises;
  passes = pass_laws g;
  places = grouped_places;
  uses = use_laws;
  stands = stand_laws;
  results = result_laws;
  meanings = meaning_laws;
  holding = hold_law;
  paths = path_law;
}

pub answer_law : Given → AnswerLaw
answer_law g = answer_holds (all_laws g) g.source

pub check_law : Given → CheckLaw
check_law g = check_holds (all_laws g) g.source (record { nodes_law = g.nodes; count_law = g.counts })
