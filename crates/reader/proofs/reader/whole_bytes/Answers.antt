use Rattle.reader.proofs.WholeBytes.{no_bytes, bytes_fit, byte_fits_behind, bytes_turn, bytes_done}
use Rattle.reader.proofs.reader.whole_bytes.Goals as goal

pub loop-byte-init : goal.loop-byte-init
loop-byte-init c = no_bytes _ _

pub overflow_mul-value : goal.overflow_mul-value
overflow_mul-value c = bytes_fit _ _ _ c.requires.0 c.requires.1 c.requires.2 _ _ c.loop-byte.invariant c.loop-byte-test.true

pub overflow_add-value : goal.overflow_add-value
overflow_add-value c = byte_fits_behind _ _ _ c.requires.0 c.requires.1 c.requires.2 _ _ c.loop-byte.invariant c.loop-byte-test.true (c.type_inv.card _).fits

pub loop-byte-preserved : goal.loop-byte-preserved
loop-byte-preserved c = bytes_turn _ _ _ c.requires.0 c.requires.1 c.requires.2 _ _ c.loop-byte.invariant c.loop-byte-test.true (c.type_inv.card _).fits

pub returns : goal.returns
returns c = bytes_done _ _ _ c.requires.0 c.requires.1 c.requires.2 _ _ c.loop-byte.invariant c.loop-byte-test.false c.loop-byte.auto.byte-index-end
