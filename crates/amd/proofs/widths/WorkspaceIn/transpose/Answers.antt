use Rattle.std.proofs.Common.{arith, refl}
use Rattle.amd_input.proofs.RowForms.{upto_fits}
use Rattle.amd.proofs.widths.WorkspaceIn.transpose.Goals as goal

pub transpose_within-requires-clause-names : goal.transpose_within-requires-clause-names
transpose_within-requires-clause-names g c = (
  upto_fits g.J.Index.fits g.met.J.Index.zero_fits g.met.J.Index.between _ _ c.requires.names.0 c.requires.inside.0,
  upto_fits g.J.Index.fits g.met.J.Index.zero_fits g.met.J.Index.between _ _ c.requires.names.1 c.requires.inside.1,
)

pub invariant_of-self : goal.invariant_of-self
invariant_of-self g c =
    let s = c.args.self.now.sized in let e = c.transpose_within.ensures in let pointers = e.room.0 in let columns = e.room.1 in
    let room = s.memory in let r = room.beside in let marks = e.scratch.0 in let next = e.scratch.1 in
    let w = r.lists.w in let ends = r.next in let wide = s.pointers in let long = s.columns in record {
      sized = record {
        memory = record {
          beside = record {
            words = r.words;
            next = omega (arith, ends, next);
            pe = r.pe;
            len = r.len;
            lists = record {
              w = omega (arith, w, marks);
              head = r.lists.head;
              sides = r.lists.sides;
              hash = r.lists.hash;
            };
          };
          nv = room.nv;
          e_len = room.e_len;
        };
        pointers = omega (arith, wide, pointers);
        columns = omega (arith, long, columns);
        narrow = s.narrow;
        few = s.few;
      };
    }

pub returns-clause-made : goal.returns-clause-made
returns-clause-made g c = (refl, refl)
