pub use Rattle.java_type_relations.proofs.Forms.{out_array, out_boolean, out_class, out_null, out_number, out_variable}
