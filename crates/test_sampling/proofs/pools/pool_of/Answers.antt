use Rattle.size_window.specs.Drawing.{limits_of}
use Rattle.test_sampling.proofs.Three.{three-items, is-ready}
use Rattle.test_sampling.proofs.pools.pool_of.Goals as goal

pub returns : goal.returns
returns c =
    let are = three-items c.new-tapes.result.items c.push.new.self.items c.push-2.new.self.items c.push-3.new.self.items c.over.result c.over-2.result c.over-3.result c.new-tapes.ensures.items c.in_ok-push.ensures.items c.in_ok-push-2.ensures.items c.in_ok-push-3.ensures.items in
    record {
      ready = is-ready c.args.founded.now (limits_of c.args.limits) c.push-3.new.self.items c.over.result c.over-2.result c.over-3.result are c.over.ensures.belongs c.over-2.ensures.belongs c.over-3.ensures.belongs c.make.result c.make.ensures.new c.make.ensures.belongs;
    }
