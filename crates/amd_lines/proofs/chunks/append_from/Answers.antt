-- What was read stands behind the bytes that were there.
use Rattle.std.proofs.Common.{◌∙◌, ◌++◌, ℕ, List, length, take, drop, refl}
use Rattle.amd_lines.proofs.WrittenLists.{written}
use Rattle.amd_lines.proofs.BlockLemmas.{appended}
use Rattle.amd_lines.proofs.chunks.append_from.Goals as goal

pub returns-in-Ok-clause-ok : goal.returns-in-Ok-clause-ok
returns-in-Ok-clause-ok g c =
    let old : List ℕ = c.args.bytes.now.items in
    let wide : List ℕ = c.resize.new.self.items in
    let new : List ℕ = c.read_behind.new.bytes in
    let filled : ℕ = c.len-filled.result in
    let count : ℕ = c.in-Ok.count in
    let len : ℕ = c.resize.new.self.len in
    let after : List ℕ = take len (new ++ drop (length new) wide) in
    let first = written wide c.deref_mut.result.now new len (length wide) c.deref_mut.ensures.value refl c.resize.new.self.ok.0
    c.read_behind.auto.bytes in
    let both = appended old wide c.deref_mut.result.now new after c.truncate.new.self.items _ filled count _
    (c.len-filled.ensures ∙ c.args.bytes.now.ok.0)
    c.in_ok-resize.ensures.items c.deref_mut.ensures.value c.in-Ok.ensures.front first.0 c.truncate.ensures.items c.in-Ok.ensures.ok.0 in
    (take count (drop filled new), both.0, both.1, c.in-Ok.ensures.ok.1)
