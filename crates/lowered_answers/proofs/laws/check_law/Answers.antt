use Rattle.lowered_answers.proofs.Assembled.{check_law}
use Rattle.lowered_answers.proofs.laws.check_law.Goals as goal

pub returns : goal.returns
returns c = check_law (record {
  kind = c.kind_law.ensures;
  known = c.known_law.ensures;
  value = c.value_law.ensures;
  blank = c.blank_law.ensures;
  nodes = c.node_law.ensures;
  counts = c.count_law.ensures;
  source = c.source_law.ensures;
  premises = record {
    columns = c.column_law.ensures;
    table = c.table_law.ensures;
    rows = c.rows_law.ensures;
    groups = c.groups_law.ensures;
    members = c.member_laws.ensures;
    places = c.places_law.ensures;
    group_places = c.group_places_law.ensures;
    shapes = c.shape_laws.ensures;
  };
})
