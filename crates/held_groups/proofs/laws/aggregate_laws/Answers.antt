use Rattle.held_groups.proofs.Aggregates.{there_law, values_law, rows_law, row_count_law}
use Rattle.held_groups.proofs.laws.aggregate_laws.Goals as goal

pub returns : goal.returns
returns c = record { there = there_law; values = values_law; rows = rows_law; count = row_count_law }
