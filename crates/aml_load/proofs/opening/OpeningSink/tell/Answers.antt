use Rattle.std.proofs.Common.{[], ◌∷◌, ◌++◌, sym, ap, ◌∙◌}
use Rattle.std.proofs.lemmas.List.{append-nil}
use Rattle.aml_code.specs.Pieces.{piece_view}
use Rattle.aml_load.specs.Opening.{held_pieces}
use Rattle.aml_load.proofs.Openings.{none_there}
use Rattle.aml_load.proofs.opening.OpeningSink.tell.Goals as goal

pub returns : goal.returns
returns g c =
    let told = held_pieces c.args.self.now.held ++ piece_view c.args.piece.now ∷ [] in
    let none = none_there c.span_of-self.result (sym c.is_some.ensures ∙ c.if-is_some.false) in
    record {
      same = c.in_ok-let_go.ensures.same;
      held = c.span_of-self.ensures;
      told = told;
      all = sym (append-nil told) ∙ ap (λ h. told ++ held_pieces h) (sym none);
      grown = g.met.S.Sink.further _ _ _ _ _ c.in_ok-let_go.ensures.told c.in_ok-tell.ensures;
    }
