-- XDR has the data behind two counts.
use Rattle.std.proofs.Common.{refl}
use Rattle.dap_number.proofs.FrontLemmas.{put-left}
use Rattle.nc_writer.proofs.SentLemmas.{put-data, sent-fits, sent-small}
use Rattle.nc_writer.proofs.data.put_sent.Goals as goal

pub xdr_piece-requires : goal.xdr_piece-requires
xdr_piece-requires c = record {
  part = sent-fits c.args.source.now c.args.variable.now c.requires.variable;
  small = sent-small c.args.source.now c.args.variable.now c.requires.variable c.requires.number c.requires.same
      c.requires.many c.requires.small;
}

pub returns : goal.returns
returns c =
    put-data c.args.source.now c.args.variable.now c.args.from _ c.xdr_piece.result c.args.out.now c.xdr_piece.new.out
    c.requires.variable c.requires.number c.requires.same c.requires.many refl
    (put-left _ c.args.out.now c.xdr_piece.new.out _ c.xdr_piece.result c.xdr_piece.ensures.count
    c.xdr_piece.ensures.bytes)
