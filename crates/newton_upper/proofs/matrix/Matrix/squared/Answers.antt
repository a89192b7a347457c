use Rattle.std.proofs.Common.{◌≡◌, ◌∙◌, ◌+◌, ◌<◌, [], ◌∷◌, ◌++◌, ℕ, length, refl, sym, ap, arith}
use Rattle.std.proofs.lemmas.List.{length_push}
use Rattle.newton_upper.specs.Below.{all_below}
use Rattle.newton_upper.specs.Newton.{column, matrix_times, squared_column, squared}
use Rattle.newton_upper.proofs.Columns.{column-read, columns-more}
use Rattle.newton_upper.proofs.ResultsBelow.{all-missing, all-more}
use Rattle.newton_upper.proofs.matrix.Matrix.squared.Goals as goal

pub returns-in_default-clause-exact : goal.returns-in_default-clause-exact
unfolding squared
returns-in_default-clause-exact g c =
    let count : length c.self.inside.columns.items ≡ length c.args.self.now = ap length c.self.view_is in
    let read : c.items-column.result.now ≡ column c.args.self.now c.loop-c.c =
    column-read c.self.inside.columns.items c.args.self.now c.loop-c.c c.index.result.now c.items-column.result.now c.self.view_is c.items-column.ensures.items c.index.ensures (omega (arith, c.len-c-end.ensures)) in
    sym (all-missing (squared_column g.row.F c.args.self.now) c.loop-c.c (length c.args.self.now)
    (sym (c.in_ok-product.ensures.exact ∙ ap (matrix_times g.row.F c.args.self.now) read) ∙ c.in_default.is) (omega (arith, c.len-c-end.ensures)))

pub loop-c-preserved : goal.loop-c-preserved
loop-c-preserved g c =
    let count : length c.self.inside.columns.items ≡ length c.args.self.now = ap length c.self.view_is in
    let within : c.loop-c.c < length c.args.self.now = omega (arith, c.len-c-end.ensures) in
    let read : c.items-column.result.now ≡ column c.args.self.now c.loop-c.c =
    column-read c.self.inside.columns.items c.args.self.now c.loop-c.c c.index.result.now c.items-column.result.now c.self.view_is c.items-column.ensures.items c.index.ensures (omega arith) in
    let pushed : c.push.new.self ≡ c.loop-c.square ++ c.in-Some.product ∷ [] = c.in_ok-push.ensures.ok in
    record {
      columns = all-more (squared_column g.row.F c.args.self.now) c.loop-c.c (c.loop-c.c + 1) c.loop-c.square c.push.new.self c.in-Some.product refl c.loop-c.invariant.columns
          (sym (c.in_ok-product.ensures.exact ∙ ap (matrix_times g.row.F c.args.self.now) read) ∙ c.in-Some.is) pushed;
      count = ap length pushed ∙ length_push c.loop-c.square c.in-Some.product ∙ ap (λ (n : ℕ). n + 1) c.loop-c.invariant.count;
      each = columns-more c.loop-c.square c.push.new.self c.in-Some.product c.loop-c.c (length c.args.self.now) pushed c.loop-c.invariant.count c.loop-c.invariant.each
          (rw c.in-Some.is at c.in_ok-product.ensures.length ∙ ap length read ∙ c.requires.square.each c.loop-c.c within);
    }

pub returns-clause-exact : goal.returns-clause-exact
unfolding squared
returns-clause-exact g c =
    let count : length c.self.inside.columns.items ≡ length c.args.self.now = ap length c.self.view_is in
    let all : c.loop-c.c ≡ length c.args.self.now = omega (arith, c.len-c-end.ensures) in
    sym c.loop-c.invariant.columns ∙ ap (all_below (squared_column g.row.F c.args.self.now)) all
