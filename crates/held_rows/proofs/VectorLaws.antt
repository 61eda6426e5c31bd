-- The laws of vectors that hold rows.
use Rattle.held_rows.specs.Vectors.{VectorLaws}
use Rattle.held_rows.proofs.Upserted.{range_holds, upsert_holds, gather_holds, gather_any_holds}
use Rattle.held_rows.proofs.Projected.{project_holds}

pub vector_laws : {A : Type 0} → VectorLaws A
vector_laws = record {
  marked = λ rows p. range_holds rows p;
  upsert = λ a b p q held f attributes h e beside. upsert_holds a b p q held f attributes h e beside;
  project = λ a p q held f hp hq len e. project_holds a p q held f hp hq len e;
  at_places = λ a b pos held kept attributes h len many moves. gather_holds a b pos held kept attributes h len many moves;
  at_any_places = λ a b pos held kept attributes h there len moves. gather_any_holds a b pos held kept attributes h there len moves;
}
