use Rattle.std.proofs.Common.{◌≡◌, ℕ, ◌+◌, ◌≤◌, List, [], ◌∷◌, length, ap, ◌∙◌, arith}
use Rattle.site_read.specs.Format.{Places, loop_count, file_of}
use Rattle.site.specs.Loaded.{site_places}
use Rattle.site_write.specs.Paste.{pasted}
use Rattle.site_write.proofs.Saved.{records, records_joined, part_more, written_answer, written_output, only_file}
use Rattle.site_write.proofs.write.write_site.Goals as goal

pub put_all-requires : goal.put_all-requires
put_all-requires c =
    let body = ap length (records_joined c.args.site.now c.places.result c.places.ensures) in
    omega (arith, body, c.put-head.ensures.end, c.put-mark.ensures.end, c.records_len-wanted.ensures.value)

pub returns : goal.returns
returns c =
    let p : Places = site_places c.args.site.now in
    let out : List ℕ = c.args.out.now in
    let some : loop_count p ≡ 0 → ⊥ = λ z. omega (arith, z) in
    let fits : length (file_of p) ≤ length out = omega (arith, c.records_len-wanted.ensures.value) in
    let body = records_joined c.args.site.now c.places.result c.places.ensures in
    let mark : List ℕ = 76 ∷ 75 ∷ 84 ∷ [] in
    let head : List ℕ = 76 ∷ 75 ∷ 84 ∷ 0 ∷ 1 ∷ loop_count p ∷ [] in
    let e₀ : c.put-mark.result ≡ 3 = c.put-mark.ensures.end in
    let e₁ : c.put-head.result ≡ 6 = c.put-head.ensures.end ∙ ap (λ (k : ℕ). k + 3) e₀ in
    let end : c.put_all.result ≡ length (file_of p) = omega (arith, c.put_all.ensures.end, ap length body, e₁) in
    let s₁ : c.put-head.new.out ≡ pasted out 0 head
    = part_more out c.put-mark.new.out c.put-head.new.out mark (0 ∷ 1 ∷ loop_count p ∷ []) (0 ∷ 1 ∷ _ ∷ []) c.put-mark.result c.put-mark.ensures.output e₀ (omega (arith, fits))
    (ap (λ (k : ℕ). 0 ∷ 1 ∷ k ∷ []) c.site_loops-count.ensures) c.put-head.ensures.output in
    let all : c.put_all.new.out ≡ pasted out 0 (file_of p)
    = part_more out c.put-head.new.out c.put_all.new.out head (records p) _ c.put-head.result s₁ e₁ (omega (arith, fits)) body c.put_all.ensures.output in
    record {
      answer = written_answer p out some c.put_all.result end fits;
      output = written_output p out some c.put_all.new.out fits all;
      only_file = only_file c.args.site.now out c.put_all.new.out c.put_all.result some end all;
    }
