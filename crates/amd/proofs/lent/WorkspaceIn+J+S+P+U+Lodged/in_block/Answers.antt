use Rattle.std.proofs.Common.{arith}
use Rattle.amd.proofs.Parts.{more_fit, values_fit, words_fit}
use Rattle.amd.proofs.lent.WorkspaceIn+J+S+P+U+Lodged.in_block.Goals as goal

pub memory_in-memory-requires-clause-part : goal.memory_in-memory-requires-clause-part
memory_in-memory-requires-clause-part g c =
    let w = c.requires.whole in let r = c.requires.room in (w.0, omega (arith, w), omega (arith, r))

pub memory_in-memory-requires-clause-rows : goal.memory_in-memory-requires-clause-rows
memory_in-memory-requires-clause-rows g c = let few = c.requires.few in (omega (arith, few), c.requires.parts.0)

pub memory_in-memory-requires-clause-words : goal.memory_in-memory-requires-clause-words
memory_in-memory-requires-clause-words g c = let few = c.requires.few in (
  omega (arith, few),
  words_fit c.args.rows c.args.entries c.args.width c.args.part c.args.entries_part c.requires.parts.0 c.requires.parts.1,
)

pub split_list-pointers-requires-clause-cut : goal.split_list-pointers-requires-clause-cut
split_list-pointers-requires-clause-cut g c =
    let w = c.requires.whole in let r = c.requires.room in let rest = c.memory_in-memory.ensures.rest in (
      omega (arith, w),
      omega
          (arith, r, rest),
    )

pub split_list-pointers-requires-clause-room : goal.split_list-pointers-requires-clause-room
split_list-pointers-requires-clause-room g c = let few = c.requires.narrow.2 in let most = g.met.S.Signed.narrow in (
  more_fit c.args.rows _ c.args.width c.args.part c.requires.names c.requires.parts.0,
  omega (arith, few, most),
)

pub split_list-columns-requires-clause-cut : goal.split_list-columns-requires-clause-cut
split_list-columns-requires-clause-cut g c =
    let r = c.requires.room in let rest = c.memory_in-memory.ensures.rest in let last = c.split_list-pointers.ensures.rest in
    (c.requires.whole.1, omega (arith, r, rest, last))

pub split_list-columns-requires-clause-room : goal.split_list-columns-requires-clause-room
split_list-columns-requires-clause-room g c = let few = c.requires.few in (
  values_fit c.args.entries _ c.args.width c.args.entries_part c.requires.names c.requires.parts.1,
  omega (arith, few),
)
