use Rattle.iscsi_pair.proofs.Lists.ReadBackLaw.{first_same, reads_back, standard_normal}
use Rattle.iscsi_pair.proofs.laws.what_is_written_is_read.Goals as goal

pub returns : goal.returns
returns c = record {
  read = λ o write_cdb read_cdb bytes n p. reads_back o write_cdb read_cdb bytes n p;
  first = λ o bytes some e. first_same o bytes some e;
  normal = λ blocks. standard_normal blocks;
}
