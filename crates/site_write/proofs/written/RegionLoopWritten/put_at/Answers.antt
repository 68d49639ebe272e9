use Rattle.std.proofs.Common.{◌≡◌, ℕ, List, [], ◌∷◌, length, vec_items, sym, ap, ◌∙◌, ap₂, arith}
use Rattle.site_read.specs.Format.{encode_row}
use Rattle.loops.specs.Regions.{row_of}
use Rattle.loops.specs.Loading.{table_of}
use Rattle.loops.proofs.Bounds.{region_count}
use Rattle.site_write.specs.Paste.{pasted}
use Rattle.site_write.proofs.Pastes.{items_fit, items_end, items_output}
use Rattle.site_write.proofs.written.RegionLoopWritten.put_at.Goals as goal

pub put_all-requires : goal.put_all-requires
put_all-requires c =
    let head : List ℕ = 1 ∷ length (table_of c.args.self.now) ∷ [] in
    items_fit encode_row row_of c.regions-regions.result.now (vec_items c.args.self.now.regions) c.regions-regions.ensures c.args.out.now head c.args.at c.requires
    c.put-rows.new.out c.put-rows.result (omega arith) c.put-rows.ensures.end

pub returns : goal.returns
returns c =
    let head : List ℕ = 1 ∷ length (table_of c.args.self.now) ∷ [] in
    let n : length c.regions-regions.result.now ≡ length (table_of c.args.self.now) = ap length c.regions-regions.ensures ∙ sym (region_count c.args.self.now) in
    record {
      end = items_end encode_row row_of c.regions-regions.result.now (vec_items c.args.self.now.regions) c.regions-regions.ensures c.args.out.now head c.args.at c.requires
          c.put-rows.result c.put_all.result c.put-rows.ensures.end c.put_all.ensures.end;
      output = items_output encode_row row_of c.regions-regions.result.now (vec_items c.args.self.now.regions) c.regions-regions.ensures c.args.out.now head c.args.at c.requires
          c.put-rows.new.out c.put_all.new.out c.put-rows.result c.put-rows.ensures.end
          (c.put-rows.ensures.output ∙ ap₂ (λ (kind count : ℕ). pasted c.args.out.now c.args.at (kind ∷ count ∷ [])) c.into.ensures n) c.put_all.ensures.output;
    }
