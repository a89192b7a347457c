-- Each kind of node prints its token.
use Rattle.std.proofs.Common.{◌≡◌, ◌++◌, ◌∷◌, [], map, replicate, drop, decimal, sym, ◌∙◌, ap, subst, Some}
use Rattle.std.proofs.lemmas.Result.{on_ok_weaker}
use Rattle.bz_model.specs.Spec.{Node, node_at}
use Rattle.class_system.specs.Views.{number, spec_node}
use Rattle.object_store.specs.Tokens.{token_size}
use Rattle.object_text.specs.Todos.{joined_objects}
use Rattle.object_text.specs.Output.{grown, form_opened}
use Rattle.object_text.specs.Printing.{Prints}
use Rattle.object_text.proofs.Steps.{of-empty, of-atom}
use Rattle.object_text.proofs.Tokens.{no_other, prints-pick, prints-count, prints-set, prints-cycle}
use Rattle.object_text.proofs.walk.print_token.Goals as goal

pub unreachable-requires-in-Class : goal.unreachable-requires-in-Class
unreachable-requires-in-Class c = no_other c.args.system.now c.args.e.0 c.node.result.now c.requires.has_token c.node.ensures.node c.in-Class.is

pub returns-in-Empty : goal.returns-in-Empty
returns-in-Empty c =
    let at : node_at c.args.system.now c.args.e.0 ≡ Some (Node.Empty c.bytes.result.now) = c.node.ensures.node ∙ ap (λ n. Some (spec_node n)) c.in-Empty.is ∙ ap (λ w. Some (Node.Empty w)) (sym c.bytes.ensures) in
    record {
      takes = on_ok_weaker c.print_leaf.result
          (λ put. record { on = λ whole rest labels is p. subst (Prints c.args.system.now whole c.args.todos.now rest (drop (token_size c.args.token) labels)) (sym put) (of-empty c.args.system.now whole c.args.todos.now c.args.e.0 labels c.args.output.now c.bytes.result.now at c.args.token rest p) })
          c.print_leaf.ensures;
    }

pub returns-in-Atom : goal.returns-in-Atom
returns-in-Atom c =
    let at : node_at c.args.system.now c.args.e.0 ≡ Some (Node.Atom c.bytes-in-Atom.result.now) = c.node.ensures.node ∙ ap (λ n. Some (spec_node n)) c.in-Atom.is ∙ ap (λ w. Some (Node.Atom w)) (sym c.bytes-in-Atom.ensures) in
    record {
      takes = on_ok_weaker c.print_leaf-in-Atom.result
          (λ put. record { on = λ whole rest labels is p. subst (Prints c.args.system.now whole c.args.todos.now rest (drop (token_size c.args.token) labels)) (sym put) (of-atom c.args.system.now whole c.args.todos.now c.args.e.0 labels c.args.output.now c.bytes-in-Atom.result.now at c.args.label is c.requires.unlabelled c.args.token rest p) })
          c.print_leaf-in-Atom.ensures;
    }

pub returns-in_ok-write_byte-in-Union : goal.returns-in_ok-write_byte-in-Union
returns-in_ok-write_byte-in-Union c =
    let at : node_at c.args.system.now c.args.e.0 ≡ Some (Node.Union (map number c.items.result.now)) = c.node.ensures.node ∙ ap (λ n. Some (spec_node n)) c.in-Union.is ∙ ap (λ ps. Some (Node.Union (map number ps))) (sym c.items.ensures.items) in
    let n = c.from.ensures in
    let written : c.write_byte.new.self ≡ grown (grown c.args.output.now 0 (decimal c.in-Pick.i)) 0 (46 ∷ []) = c.in_ok-write_byte-in-Union.ensures ∙ ap (λ o. grown o 0 (46 ∷ [])) (c.in_ok-write_number-in-Union.ensures ∙ ap (λ k. grown c.args.output.now 0 (decimal k)) (cc)) in
    record {
      takes = on_ok_weaker c.push_one.result
          (λ put. record {
            on = λ whole rest labels is p.
                subst (Prints c.args.system.now whole c.push_one.new.self rest (drop (token_size c.args.token) labels)) (sym written)
                (subst (λ todos. Prints c.args.system.now whole todos rest (drop (token_size c.args.token) labels) (grown (grown c.args.output.now 0 (decimal c.in-Pick.i)) 0 (46 ∷ []))) (sym put) (prints-pick c.args.system.now whole c.args.todos.now c.args.e.0 labels c.args.output.now c.args.token rest c.items.result.now c.in-Pick.i (record { 0 = 0 }) at c.in-Pick.is p));
          })
          c.push_one.ensures;
    }

pub returns-in_ok-push_one-in-Seq : goal.returns-in_ok-push_one-in-Seq
returns-in_ok-push_one-in-Seq c =
    let at : node_at c.args.system.now c.args.e.0 ≡ Some (Node.Seq c.in-Seq.part.0) = c.node.ensures.node ∙ ap (λ n. Some (spec_node n)) c.in-Seq.is in
    record {
      takes = on_ok_weaker c.push_objects.result
          (λ put. record {
            on = λ whole rest labels is p.
                subst (Prints c.args.system.now whole c.push_objects.new.self rest (drop (token_size c.args.token) labels)) (sym c.in_ok-write_byte-in-Seq.ensures)
                (subst (λ todos. Prints c.args.system.now whole todos rest (drop (token_size c.args.token) labels) (grown c.args.output.now 0 (91 ∷ []))) (sym (put ∙ ap (λ todos. joined_objects (replicate c.in-Count.k c.in-Seq.part) ++ todos) c.in_ok-push_one-in-Seq.ensures)) (prints-count c.args.system.now whole c.args.todos.now c.args.e.0 labels c.args.output.now c.args.token rest c.in-Seq.part c.in-Count.k at c.in-Count.is p));
          })
          c.push_objects.ensures;
    }

pub returns-in-Count-token : goal.returns-in-Count-token
returns-in-Count-token c =
    let at : node_at c.args.system.now c.args.e.0 ≡ Some (Node.Set c.in-Set.part.0) = c.node.ensures.node ∙ ap (λ n. Some (spec_node n)) c.in-Set.is in
    record {
      takes = on_ok_weaker c.begin_parts.result
          (λ begun. record {
            on = λ whole rest labels is p.
                subst (Prints c.args.system.now whole c.begin_parts.new.todos rest (drop (token_size c.args.token) labels)) (sym begun.1)
                (subst (λ todos. Prints c.args.system.now whole todos rest (drop (token_size c.args.token) labels) (form_opened c.args.output.now)) (sym begun.0) (prints-set c.args.system.now whole c.args.todos.now c.args.e.0 labels c.args.output.now c.args.token rest c.in-Set.part c.in-Count-token.k at c.in-Count-token.is p));
          })
          c.begin_parts.ensures;
    }

pub returns-in-Count-token-2 : goal.returns-in-Count-token-2
returns-in-Count-token-2 c =
    let at : node_at c.args.system.now c.args.e.0 ≡ Some (Node.Cyc c.in-Cyc.part.0) = c.node.ensures.node ∙ ap (λ n. Some (spec_node n)) c.in-Cyc.is in
    record {
      takes = on_ok_weaker c.begin_parts-in-Cyc.result
          (λ begun. record {
            on = λ whole rest labels is p.
                subst (Prints c.args.system.now whole c.begin_parts-in-Cyc.new.todos rest (drop (token_size c.args.token) labels)) (sym begun.1)
                (subst (λ todos. Prints c.args.system.now whole todos rest (drop (token_size c.args.token) labels) (form_opened c.args.output.now)) (sym begun.0) (prints-cycle c.args.system.now whole c.args.todos.now c.args.e.0 labels c.args.output.now c.args.token rest c.in-Cyc.part c.in-Count-token-2.k at c.in-Count-token-2.is p));
          })
          c.begin_parts-in-Cyc.ensures;
    }
