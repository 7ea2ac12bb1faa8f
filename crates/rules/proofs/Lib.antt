pub mod GrantedRows
