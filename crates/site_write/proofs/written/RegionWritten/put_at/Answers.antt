use Rattle.std.proofs.Common.{ℕ, List, [], ◌∷◌, vec_items, arith}
use Rattle.site_read.specs.Format.{word}
use Rattle.loops.specs.declared.region.RegionSet.{RegionSet}
use Rattle.site_write.proofs.Pastes.{items_fit, items_end, items_output}
use Rattle.site_write.proofs.written.RegionWritten.put_at.Goals as goal

pub put_all-requires : goal.put_all-requires
put_all-requires c =
    let head : List ℕ = c.args.self.now.earliest ∷ c.args.self.now.deadline ∷ [] in
    items_fit word (λ (s : RegionSet). s.0) c.deref.result.now (vec_items c.args.self.now.targets) c.deref.ensures.value c.args.out.now head c.args.at c.requires
    c.put-sets.new.out c.put-sets.result (omega arith) c.put-sets.ensures.end

pub returns : goal.returns
returns c =
    let head : List ℕ = c.args.self.now.earliest ∷ c.args.self.now.deadline ∷ [] in
    record {
      end = items_end word (λ (s : RegionSet). s.0) c.deref.result.now (vec_items c.args.self.now.targets) c.deref.ensures.value c.args.out.now head c.args.at c.requires
          c.put-sets.result c.put_all.result c.put-sets.ensures.end c.put_all.ensures.end;
      output = items_output word (λ (s : RegionSet). s.0) c.deref.result.now (vec_items c.args.self.now.targets) c.deref.ensures.value c.args.out.now head c.args.at c.requires
          c.put-sets.new.out c.put_all.new.out c.put-sets.result c.put-sets.ensures.end c.put-sets.ensures.output c.put_all.ensures.output;
    }
